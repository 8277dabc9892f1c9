use Rattle.figures.proofs.Computed.{opening_figures_hold}
use Rattle.figures.proofs.opening_figures_stands.Goals as goal

pub returns : goal.returns
returns c = opening_figures_hold
