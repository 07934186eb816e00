-- Laws of the records of the work list as they lie in a list of numbers. Assumes nothing.
use Rattle.std.specs.Prelude.{◌≡◌, refl, List, [], ◌∷◌, ◌++◌, ℕ, zero, suc, ◌+◌, ◌*◌, ◌<◌, length, get_or, set}
use Rattle.std.proofs.Common.{ap, add-one, arith}
use Rattle.std.proofs.Math.Numerals.{add-two}
use Rattle.lists.specs.Writes.{Layout, Wrote}
use Rattle.cell_pairs.specs.declared.WorkRecord.{WorkRecord}
use Rattle.cell_pairs.specs.Records.{rec, width, flat, record_at, records_of}

pub flat_none : flat [] ≡ []
unfolding flat
flat_none = refl

pub flat_append : (rs ss : List WorkRecord) → flat (rs ++ ss) ≡ flat rs ++ flat ss
unfolding flat
flat_append [] ss = refl
flat_append (r ∷ rs) ss = ap (λ (l : List ℕ). r.pattern ∷ r.test ∷ r.trial ∷ l) (flat_append rs ss)

pub length_flat : (rs : List WorkRecord) → length (flat rs) ≡ width * length rs
unfolding flat
length_flat [] = refl
length_flat (r ∷ rs) = omega (arith, length_flat rs)

abbrev pub records : Layout WorkRecord
records = record { width = width; flat = flat; flat_none = flat_none; flat_append = flat_append; length_flat = length_flat }

-- three stores in a row are one record
pub wrote_record : (xs : List ℕ) (at : ℕ) (r : WorkRecord)
    → Wrote records xs (set (set (set xs (width * at) r.pattern) (width * at + 1) r.test) (width * at + 2) r.trial) at (at + 1) (r ∷ [])
unfolding flat
wrote_record xs at r = record { list = simp (add-one, add-two); cursor = refl }

-- what is read at place k is record k
pub flat_at : (rs : List WorkRecord) (k : ℕ) → k < length rs → record_at (flat rs) k ≡ get_or rs k (rec 0 0 0)
unfolding flat record_at
flat_at [] k h = absurd (omega arith)
flat_at (r ∷ rs) zero h = refl
flat_at (r ∷ rs) (suc k) h =
    let e₀ : width * suc k ≡ suc (suc (suc (width * k))) = omega arith in
    let e₁ : width * suc k + 1 ≡ suc (suc (suc (width * k + 1))) = omega arith in
    let e₂ : width * suc k + 2 ≡ suc (suc (suc (width * k + 2))) = omega arith in
    rw (e₁, e₂, e₀) (flat_at rs k (omega arith))

-- the records that are written are read
pub records_flat : (rs : List WorkRecord) → records_of (flat rs) ≡ rs
unfolding records_of flat
records_flat [] = refl
records_flat (r ∷ rs) = ap (λ (l : List WorkRecord). r ∷ l) (records_flat rs)
