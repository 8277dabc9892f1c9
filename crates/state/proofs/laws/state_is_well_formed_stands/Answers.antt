use Rattle.state.proofs.Forming.{well_formed}
use Rattle.state.proofs.laws.state_is_well_formed_stands.Goals as goal

pub returns : goal.returns
returns c = well_formed c.args.state.now
