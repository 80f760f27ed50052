-- The text so far and that of the fields that are left is the text of all.
use Rattle.std.proofs.Common.{◌≡◌, ◌++◌, drop}
use Rattle.job_text.specs.Rows.{fields_text}
use Rattle.job_text.proofs.rows.put_fields.Given as goal

abbrev pub invariant-loop-field : goal.invariant-loop-field
invariant-loop-field l =
    l.out.items ++ fields_text (drop l.field-index l.fields) l.rest ≡ l.fn.out.items ++ fields_text l.fields l.bytes
