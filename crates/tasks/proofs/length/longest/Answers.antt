use Rattle.std.proofs.Common.{◌≡◌, cond, fold, ◌∙◌, rules}
use Rattle.std.proofs.lemmas.Iterator.{YieldsList-from_slice}
use Rattle.std.proofs.lemmas.Iterator.Consumers.{fold_from_yields_List}
use Rattle.tasks.specs.Staircase.{longer}
use Rattle.tasks.proofs.LongStaircase.{folded_longest}
use Rattle.tasks.proofs.length.longest.Goals as goal

pub returns : goal.returns
returns g c =
    let staircase = g.T.HasStaircase.staircase in
    let found : c.fold.result ≡ fold (λ l x. cond (longer (staircase x) (staircase l)) x l) c.args.first c.args.rest.now =
    fold_from_yields_List _ (λ l x. cond (longer (staircase x) (staircase l)) x l) c.args.first c.fold.result c.fold.ensures.ran (YieldsList-from_slice c.args.rest.now cc) (λ a x b q k. search rules) in
    found ∙ folded_longest staircase c.args.first c.args.rest.now
