-- A text of which no more than 4,097 bytes are looked at reads as the whole of it: a longer one is refused whatever comes then.
use Rattle.std.proofs.Common.{◌≡◌, ℕ, ◌<◌, Bool, true, false, ltb, List, [], ◌++◌, length, take, Some, None, Option, option_map, IfSome, refl, sym, ap, ◌∙◌, arith}
use Rattle.std.proofs.lemmas.List.{length-take, take_all}
use Rattle.std.proofs.lemmas.Bool.{cond-true, lt-ltb, ltb-false, ltb-true}
use Rattle.std.specs.Io.Take.{take_remaining}
use Rattle.std.specs.declared.io.Take.{Take}
use Rattle.tasks.specs.Reply.{Reply}
use Rattle.tasks.specs.Task.{TaskModel}
use Rattle.text.specs.Reading.{reading}

by_length : (text : List ℕ) (b : Bool) → ltb 4096 (length text) ≡ b → reading (take 4097 text) ≡ reading text
unfolding reading
by_length text true e =
    let longer : 4096 < length text = ltb-true 4096 (length text) e in
    let still : 4096 < length (take 4097 text) = omega (arith, length-take 4097 text) in
    cond-true (ltb 4096 (length (take 4097 text))) _ _ (lt-ltb 4096 (length (take 4097 text)) still) ∙ sym (cond-true (ltb 4096 (length text)) _ _ e)
by_length text false e = ap reading (take_all 4097 text (omega (arith, ltb-false 4096 (length text) e)))

known_text : (given : Option (List ℕ)) (bytes : List ℕ) (read : Reply (List TaskModel)) → IfSome (option_map (take 4097) given) (λ xs. bytes ≡ xs) → read ≡ reading bytes
    → IfSome given (λ text. read ≡ reading text)
known_text None bytes read h e = tt
known_text (Some text) bytes read h e = e ∙ ap reading h ∙ by_length text (ltb 4096 (length text)) refl

-- what was read of the bytes that a reader gave, where these are known
pub read_of_all : {R : Type 0} (remaining : R → Option (List ℕ)) (reader : R) (taken : Take R) (start end bytes : List ℕ) (read : Reply (List TaskModel))
    → taken.limit ≡ 4097 → taken.inner ≡ reader → start ≡ [] → bytes ≡ end → IfSome (take_remaining remaining taken) (λ xs. end ≡ start ++ xs) → read ≡ reading bytes
    → IfSome (remaining reader) (λ text. read ≡ reading text)
read_of_all remaining reader taken start end bytes read l i s b h e =
    known_text (remaining reader) bytes read (rw b (rw l at (rw i at (rw s at h)))) e
