use Rattle.fit.proofs.Horizons.{long_lengths_suffice}
use Rattle.fit.proofs.laws.long_lengths_suffice_stands.Goals as goal

pub returns : goal.returns
returns c = long_lengths_suffice
