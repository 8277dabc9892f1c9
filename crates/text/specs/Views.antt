-- What the values that the reader and the writer work with stand for.
use Rattle.std.specs.Prelude.{◌≡◌, ℕ, List, ◌++◌, take, drop, Some, None, Ok, Err, Option, Result}
use Rattle.bounded.specs.List.{items}
use Rattle.tasks.specs.Reply.{Reply, refused, reply, served}
use Rattle.text.specs.Bytes.{fault}
use Rattle.text.specs.Fault.{cause_refusal, numeral_refusal}
use Rattle.text.specs.Line.{Numbers}
use Rattle.text.specs.declared.cursor.Cursor.{Cursor}
use Rattle.text.specs.declared.fault.LineCause.{LineCause}
use Rattle.text.specs.declared.fault.NumeralFault.{NumeralFault}
use Rattle.text.specs.declared.table_text.TableText.{TableText}
use Rattle.text.specs.declared.numbers.LineNumbers.{LineNumbers}

-- the bytes that a cursor reads
abbrev pub bytes_of : Cursor → List ℕ
bytes_of c = c.bytes.now

-- those of them that are left
abbrev pub left_of : Cursor → List ℕ
left_of c = drop c.at c.bytes.now

-- what the reading of a part of a line gives: its value with the bytes that are then left, which `view` puts together, or its
-- refusal. The cursor still reads the same bytes
pub record Reads {T A : Type 0} (view : T → List ℕ → A) (part : List ℕ → List ℕ → Reply A) (old new : Cursor) (result : Result T LineCause) : Type 0 where
  pub answer : reply (λ x. view x (left_of new)) cause_refusal result ≡ part (bytes_of old) (left_of old)
  pub same : bytes_of new ≡ bytes_of old

-- what the reading of a field tells: its number, or that the first byte left is not allowed, or the numeral's fault
abbrev pub field_reply : Result (Option ℕ) NumeralFault → List ℕ → List ℕ → Reply (ℕ × List ℕ)
field_reply (Ok (Some n)) line left = served (n, left)
field_reply (Ok None) line left = refused (fault 18 line left)
field_reply (Err f) line left = refused (numeral_refusal f)

-- the same for the reading of a field
pub record ReadsField (part : List ℕ → List ℕ → Reply (ℕ × List ℕ)) (old new : Cursor) (result : Result (Option ℕ) NumeralFault) : Type 0 where
  pub answer : field_reply result (bytes_of new) (left_of new) ≡ part (bytes_of old) (left_of old)
  pub same : bytes_of new ≡ bytes_of old

-- the numbers of a line as the code collects them
abbrev pub numbers_of : LineNumbers → Numbers
numbers_of n = record { limit = n.limit; deadline = n.deadline; staircases = items n.staircases }

-- the bytes of a table's text
abbrev pub text_of : TableText → List ℕ
text_of t = items t.bytes

-- these bytes with others behind them, as far as the longest table reaches
unfoldable pub added : List ℕ → List ℕ → List ℕ
added text more = take 328 (text ++ more)
