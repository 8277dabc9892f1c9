use Rattle.fit.proofs.Keeping.{idle_fits_as_fresh}
use Rattle.fit.proofs.laws.idle_fits_as_fresh_stands.Goals as goal

pub returns : goal.returns
returns c = idle_fits_as_fresh
