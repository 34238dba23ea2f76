-- What is listed of the body of a record.
use Rattle.std.proofs.Common.{◌≡◌, ℕ, List, length, Option, sym, ap, ◌∙◌}
use Rattle.ex_base.specs.declared.names.Place.{Place}
use Rattle.ex_base.specs.declared.names.Root.{Root}
use Rattle.object_records.specs.Record.{Record, BodyOf}
use Rattle.object_records.specs.Reads.{record_on}
use Rattle.object_records.specs.declared.Head.{Head}
use Rattle.object_records.proofs.RecordLaws.{record_read}
use Rattle.versions.specs.Versions.{root_of}
use Rattle.record_lists.specs.declared.Listed.{Listed}
use Rattle.record_lists.specs.Listed.{listed_at}

abbrev listed_by : Place → Head → Option Root → ℕ → Listed
listed_by place head root len = record { place = place; head = head; root = root; len = len }

-- what is read in a body is what is listed
pub listed_as : (place : Place) (body : List ℕ) (view : Record) (head : Head) (root : Option Root) → BodyOf body view → head ≡ view.head → root ≡ root_of view.content → listed_by place head root (length body) ≡ listed_at place body
listed_as place body view head root spelled head_is root_is =
    let read : record_on body ≡ view = record_read body view spelled in
    ap (λ (x : Head). listed_by place x root (length body)) (head_is ∙ ap (λ (r : Record). r.head) (sym read))
    ∙ ap (λ (x : Option Root). listed_by place (record_on body).head x (length body)) (root_is ∙ ap (λ (r : Record). root_of r.content) (sym read))
