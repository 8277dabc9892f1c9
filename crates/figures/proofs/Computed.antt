-- The figures, computed: one check of the whole list.
use Rattle.std.proofs.Common.{◌≡◌, true, refl}
use Rattle.std.specs.List.{list_all}
use Rattle.gate.specs.Opening.{open_answer}
use Rattle.figures.proofs.Passing.{all_from_pass}
use Rattle.figures.proofs.Quick.{quick, sound}
use Rattle.figures.specs.Opening.{OpeningFiguresHold, figures, meaning_of}

-- The length 256 is far enough for each of them, and just so for the heavy task: of every 16 ticks it leaves one free, and there 16 are needed,
-- 15 for its own burst and 1 for the allowance.
all_computed : list_all (quick 256) figures ≡ true
all_computed = refl

pub opening_figures_hold : OpeningFiguresHold
opening_figures_hold = all_from_pass (quick 256) (λ f. open_answer (meaning_of f.rule) 0 f.tasks ≡ f.answer) (sound 256) figures all_computed
