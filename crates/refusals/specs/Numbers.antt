-- The number by which the paper knows a refusal, and the number that a call answers: 0 where it is accepted. Assumes nothing.
use Rattle.std.specs.Prelude.{ℕ, ◌≡◌, Result, Ok, Err}
use Rattle.std.proofs.Common.{arith}
use Rattle.refusals.specs.declared.Refusal.{Refusal}
use Rattle.refusals.specs.declared.Refusal.TheVariants.{Cells, Vertices, Edges, Dim, Batch, Integrand, Pattern, ListLength, PointCount, LentLength, LentNumber, NoRecordLeft, Run, Record, Kind, SparseLength, Entries, Kinds}

abbrev pub number_of : Refusal → ℕ
number_of Cells = 1
number_of Vertices = 2
number_of Edges = 3
number_of Dim = 4
number_of Batch = 5
number_of Integrand = 6
number_of Pattern = 7
number_of ListLength = 8
number_of PointCount = 9
number_of LentLength = 10
number_of LentNumber = 11
number_of NoRecordLeft = 20
number_of Run = 21
number_of Record = 22
number_of Kind = 23
number_of SparseLength = 24
number_of Entries = 25
number_of Kinds = 26

abbrev pub told : {A : Type 0} → Result A Refusal → ℕ
told (Ok _) = 0
told (Err refusal) = number_of refusal

-- no refusal has the number 0
pub number_nonzero : (refusal : Refusal) → number_of refusal ≡ 0 → ⊥
number_nonzero Cells e = absurd (omega (arith, e))
number_nonzero Vertices e = absurd (omega (arith, e))
number_nonzero Edges e = absurd (omega (arith, e))
number_nonzero Dim e = absurd (omega (arith, e))
number_nonzero Batch e = absurd (omega (arith, e))
number_nonzero Integrand e = absurd (omega (arith, e))
number_nonzero Pattern e = absurd (omega (arith, e))
number_nonzero ListLength e = absurd (omega (arith, e))
number_nonzero PointCount e = absurd (omega (arith, e))
number_nonzero LentLength e = absurd (omega (arith, e))
number_nonzero LentNumber e = absurd (omega (arith, e))
number_nonzero NoRecordLeft e = absurd (omega (arith, e))
number_nonzero Run e = absurd (omega (arith, e))
number_nonzero Record e = absurd (omega (arith, e))
number_nonzero Kind e = absurd (omega (arith, e))
number_nonzero SparseLength e = absurd (omega (arith, e))
number_nonzero Entries e = absurd (omega (arith, e))
number_nonzero Kinds e = absurd (omega (arith, e))
