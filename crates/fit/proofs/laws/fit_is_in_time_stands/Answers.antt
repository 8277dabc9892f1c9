use Rattle.fit.proofs.Keeping.{fit_is_in_time}
use Rattle.fit.proofs.laws.fit_is_in_time_stands.Goals as goal

pub returns : goal.returns
returns c = fit_is_in_time
