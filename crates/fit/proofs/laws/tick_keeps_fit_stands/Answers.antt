use Rattle.fit.proofs.Keeping.{tick_keeps_fit}
use Rattle.fit.proofs.laws.tick_keeps_fit_stands.Goals as goal

pub returns : goal.returns
returns c = tick_keeps_fit
