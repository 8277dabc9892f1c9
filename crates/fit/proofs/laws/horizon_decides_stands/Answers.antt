use Rattle.fit.proofs.Allowances.{horizon_decides}
use Rattle.fit.proofs.laws.horizon_decides_stands.Goals as goal

pub returns : goal.returns
returns c = horizon_decides
