-- The lines of the records so far are there, and what is left of the list follows them.
use Rattle.std.proofs.Common.{◌≡◌, ◌*◌, ◌≤◌, length, drop}
use Rattle.std.specs.Slice.Iter.{chunks_exact_rest, chunks_exact_size}
use mathlib.Core.List.{flat_map}
use Rattle.lists.specs.Range.{range}
use Rattle.cell_pairs.specs.Records.{width, record_at}
use Rattle.worklist_text.specs.Text.{line_of}
use Rattle.worklist_text.proofs.text.write_lines.Given as goal

abbrev pub invariant-loop-record : goal.invariant-loop-record
invariant-loop-record l = record {
  size : chunks_exact_size l.record-iterator ≡ width;
  rest : chunks_exact_rest l.record-iterator ≡ drop (width * length l.yielded) l.work;
  room : width * length l.yielded ≤ length l.work;
  text : l.text.bytes ≡ flat_map (λ i. line_of (record_at l.work i)) (range (length l.yielded));
}
