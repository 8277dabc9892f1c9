use Rattle.std.proofs.Common.{◌≡◌, rules}
use Rattle.tasks.specs.Draft.{draft_of}
use Rattle.tasks.specs.Reply.{reply}
use Rattle.text.specs.Fault.{table_refusal}
use Rattle.text.specs.Reading.{reading}
use Rattle.input.proofs.Cut.{read_of_all}
use Rattle.input.proofs.read_draft.Goals as goal

pub returns : goal.returns
returns g c =
    let read : reply draft_of table_refusal c.map.result ≡ reading c.as_slice.result.now = search rules in
    read_of_all g.R.Read.remaining c.args.reader c.take.result c.new-bytes.result.items c.read_to_end.new.buf.items c.as_slice.result.now (reply draft_of table_refusal c.map.result)
    c.take.ensures.limit c.take.ensures.inner c.new-bytes.ensures.items c.as_slice.ensures.value c.in_ok-read_to_end.ensures.bytes read
