use Rattle.fit.proofs.Behind.{all_fit_behind}
use Rattle.fit.proofs.laws.all_fit_behind_stands.Goals as goal

pub returns : goal.returns
returns c = all_fit_behind
