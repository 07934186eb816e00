-- A loop over the parts of a list, `for part in cells.chunks(size)`, each turn of which writes f of the part: part k is batch k of the list. Assumes nothing.
use Rattle.std.specs.Prelude.{◌≡◌, ◌+◌, ◌-◌, ◌*◌, ◌/◌, ◌≤◌, ◌<◌, ℕ, zero, suc, length, take, drop}
use Rattle.std.proofs.Common.{◌∙◌, sym, ap, ap₂, min, arith, div-mul-le_self, mul-le-mul_right, length-drop}
use Rattle.std.proofs.Math.Path.{refl}
use Rattle.std.proofs.Math.Nat.{zero-mul}
use Rattle.std.proofs.lemmas.List.{drop-drop}
use Rattle.std.proofs.Math.Logic.{⊎_elim}
use Rattle.std.proofs.Math.Nat.{lt-div-mul-add}
use mathlib.Core.List.{List, [], ◌∷◌, ◌++◌, flat_map}
use Rattle.lists.specs.Bounded.{lt_or_le}
use Rattle.lists.specs.Range.{range, batch}
use Rattle.lists.specs.Writes.{Layout, Wrote, Room, Turns, turns_start, turns_room, turns_turn, turns_done}

-- how many parts n cells have
abbrev pub batch_count : ℕ → ℕ → ℕ
batch_count size n = (n + (size - 1)) / size

-- a part that begins within the cells is one of them
batch_one : {size b n : ℕ} → 0 < size → b * size < n → b < batch_count size n
batch_one {size} {b} {n} p h = ⊎_elim (λ l. l) (λ l. absurd (past l)) (lt_or_le b (batch_count size n))
  where
    past : batch_count size n ≤ b → ⊥
    past l = omega (arith, mul-le-mul_right size l, lt-div-mul-add {a = n + (size - 1)} p)

-- past the last part
batch_past : {size b n : ℕ} → 0 < size → n ≤ b * size → batch_count size n ≤ b
batch_past {size} {b} {n} p h = ⊎_elim (λ l. absurd (more l)) (λ l. l) (lt_or_le b (batch_count size n))
  where
    more : b < batch_count size n → ⊥
    more l =
        let m : (b + 1) * size ≤ batch_count size n * size = mul-le-mul_right size (omega arith) in
        omega (arith, m, div-mul-le_self (n + (size - 1)) size)

-- the front of a list of which a part comes off, and what is left
front : {A : Type 0} (n : ℕ) (xs ys zs : List A) → xs ≡ ys ++ zs → length ys ≡ min n (length xs) → (ys ≡ take n xs) × (zs ≡ drop n xs)
front zero xs [] zs e l = (refl, sym e)
front zero xs (y ∷ ys) zs e l = absurd (omega arith)
front (suc n) [] [] zs e l = (refl, sym e)
front (suc n) [] (y ∷ ys) zs e l = absurd (omega arith)
front (suc n) (x ∷ xs) [] zs e l = absurd (omega arith)
front (suc n) (x ∷ xs) (y ∷ ys) zs e l =
    let heads : x ≡ y = cc in
    let tails : xs ≡ ys ++ zs = cc in
    let r = front n xs ys zs tails (omega arith) in
    (ap₂ (λ (h : _) (t : List _). h ∷ t) (sym heads) r.0, r.1)

-- the invariant: before turn k the first k parts are written. The iterator has `rest` left, to be cut into parts of `cut`
pub record Batched {A : Type 0} (L : Layout A) (f : List ℕ → List A) (size : ℕ) (cells rest : List ℕ) (cut : ℕ) (xs ys : List ℕ) (at next k : ℕ) : Type 0 where
  pub same : cut ≡ size
  pub left : rest ≡ drop (k * size) cells
  pub turns : Turns L (λ b. f (batch size b cells)) (batch_count size (length cells)) xs ys at next k

pub batched_start : {A : Type 0} {L : Layout A} (f : List ℕ → List A) {size : ℕ} {cells rest : List ℕ} {cut : ℕ} (xs : List ℕ) (at : ℕ) → rest ≡ cells → cut ≡ size → Batched L f size cells rest cut xs xs at at 0
batched_start f {size} {cells} xs at e s = record { same = s; left = e ∙ rw (zero-mul size); turns = turns_start _ _ _ _ }

module _ {A : Type 0} {L : Layout A} {f : List ℕ → List A} {size : ℕ} {cells rest : List ℕ} {cut : ℕ} {xs ys : List ℕ} {at m k : ℕ} (b : Batched L f size cells rest cut xs ys at m k) (positive : 0 < size) where
  -- a part comes off the front of what is left
  module _ (part more : List ℕ) (kept : ℕ) (h : (kept ≡ cut) × ((rest ≡ part ++ more) × (length part ≡ min cut (length rest)) × (0 < length rest))) where
    within : k < batch_count size (length cells)
    within = batch_one positive (omega (arith, h.1.2, ap length b.left, length-drop (k * size) cells))

    -- it is batch k
    pub batched_part : part ≡ batch size k cells
    unfolding batch
    batched_part = (front cut rest part more h.1.0 h.1.1).0 ∙ ap₂ (λ (n : ℕ) (l : List ℕ). take n l) b.same b.left

    pub batched_room : Room L xs at (flat_map (λ b. f (batch size b cells)) (range (batch_count size (length cells)))) → Room L ys m (f part)
    batched_room r = rw batched_part (turns_room b.turns within r)

    pub batched_turn : {zs : List ℕ} {next : ℕ} → Wrote L ys zs m next (f part) → Batched L f size cells more kept xs zs at next (k + 1)
    batched_turn w =
        record {
          same = h.0 ∙ b.same;
          left =
              (front cut rest part more h.1.0 h.1.1).1
              ∙ ap₂ (λ (n : ℕ) (l : List ℕ). drop n l) b.same b.left
              ∙ drop-drop size (k * size) cells
              ∙ ap (λ (n : ℕ). drop n cells) (omega arith);
          turns = turns_turn b.turns within (rw batched_part at w);
        }

  pub batched_done : length rest ≡ 0 → Wrote L xs ys at m (flat_map (λ b. f (batch size b cells)) (range (batch_count size (length cells))))
  batched_done h = turns_done b.turns (batch_past positive (omega (arith, h, ap length b.left, length-drop (k * size) cells)))
