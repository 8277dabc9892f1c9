use Rattle.std.proofs.Common.{refl}
use Rattle.figures.proofs.arrival_figures_stands.Goals as goal

-- computed
pub returns : goal.returns
returns c = refl
