use Rattle.fit.proofs.Keeping.{arrival_keeps_fit}
use Rattle.fit.proofs.laws.arrival_keeps_fit_stands.Goals as goal

pub returns : goal.returns
returns c = arrival_keeps_fit
