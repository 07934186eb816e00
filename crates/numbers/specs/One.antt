-- A product of two f64 times 1 is that product. Assumes nothing.
use Rattle.std.specs.Prelude.{◌≡◌, refl, ℕ, zero, suc, ◌+◌, ◌-◌, ◌*◌, ◌%◌, ◌^◌, ◌≤◌, ◌<◌, Bool, true, false, ◌&&◌, ℤ, pos, negsuc, T, leb, ltb, eqb, Float}
use Rattle.std.proofs.Common.{sym, ap, ◌∙◌, le_of_suc-le-suc, lt_of_lt_of_le, lt_of_not-le, lt_irrefl, zero-mul, mul-one, mul_assoc, mul_comm, mul_right_comm, mul-lt-mul_of_pos_right, lt_of_mul-lt-mul_right, ltb→lt, leb→le, pow-add, pow_pos}
use Rattle.std.proofs.Math.Pow.{pow-lt}
use Rattle.std.specs.Float.{nan, inf, fin, Format, binary64}
use Rattle.std.specs.Float.Ieee.{prec, emax, low, up, down, round, mul, fits, to_bits, of_bits}
use Rattle.std.specs.Float.Ieee.Digits.{back}
use Rattle.std.specs.Float.Ieee.Fits.{and_l, and_r, down_pos, round-fits, mul-fits}
use Rattle.std.specs.Float.Ieee.Exact.{HasValue, round_exact}
use Rattle.std.specs.Float.Ieee.Nearest.{div_same}
use Rattle.std.specs.Float.Ieee.Bits.{of_bits-to_bits}
use Rattle.numbers.specs.Floats.{◌⊗◌, 1·0}

-- ---- a value that its format holds is a whole number of the format's smallest value, so rounding keeps it

pow_le_back : (a l : ℕ) → 2 ^ a ≤ 2 ^ l → a ≤ l
pow_le_back a l h = le_of_suc-le-suc (lt_of_not-le (λ (g : suc l ≤ a). lt_irrefl (2 ^ l) (lt_of_lt_of_le (pow-lt g) h)))

-- m * 2 ^ e is m * 2 ^ j times 2 ^ -l
place : (l m : ℕ) (e : ℤ) → down e ≤ 2 ^ l → (j : ℕ) × (m * up e * 2 ^ l ≡ m * 2 ^ j * down e)
place l m (pos a) h = (a + l, rw (mul-one (m * 2 ^ (a + l)), pow-add 2 a l, mul_assoc m (2 ^ a) (2 ^ l)))
place l m (negsuc a) h =
    let k = l - suc a in
    let split : 2 ^ l ≡ 2 ^ k * 2 ^ suc a = ap (λ (x : ℕ). 2 ^ x) (sym (back l (suc a) (pow_le_back (suc a) l h))) ∙ pow-add 2 k (suc a) in
    (k, rw (mul-one m, split, mul_assoc m (2 ^ k) (2 ^ suc a)))

bound : (n u d a b : ℕ) → u * 2 ^ a ≡ n * d → u < 2 ^ b * d → n < 2 ^ (a + b)
bound n u d a b e h =
    let regroup : 2 ^ b * d * 2 ^ a ≡ 2 ^ (a + b) * d = rw (pow-add 2 a b, mul_right_comm (2 ^ b) d (2 ^ a), mul_comm (2 ^ b) (2 ^ a)) in
    lt_of_mul-lt-mul_right d (rw (← e, ← regroup) (mul-lt-mul_of_pos_right h (pow_pos a)))

kept : (f : Format) (s : Bool) (m : ℕ) (e : ℤ) → T (fits f (fin s m e)) → HasValue (round f s (m * up e) (down e)) s (m * up e) (down e)
unfolding fits
kept f s zero e t =
    round_exact f s (0 * up e) (down e) 0 0 (down_pos e) (pow_pos (prec f)) (pow_pos (low f + suc (emax f))) (rw (zero-mul (up e), zero-mul (2 ^ low f), zero-mul (down e)))
kept f s (suc m) e t =
    let a = eqb (suc m % 2) 1 in
    let b = ltb (suc m) (2 ^ prec f) in
    let c = leb (down e) (2 ^ low f) in
    let d = ltb (suc m * up e) (2 ^ suc (emax f) * down e) in
    let abc : T (a && b && c) = and_l (a && b && c) d t in
    let p = place (low f) (suc m) e (leb→le (down e) (2 ^ low f) (and_r (a && b) c abc)) in
    round_exact f s (suc m * up e) (down e) (suc m) p.0 (down_pos e)
    (ltb→lt (suc m) (2 ^ prec f) (and_r a b (and_l (a && b) c abc)))
    (bound (suc m * 2 ^ p.0) (suc m * up e) (down e) (low f) (suc (emax f)) p.1 (ltb→lt (suc m * up e) (2 ^ suc (emax f) * down e) (and_r (a && b && c) d t)))
    p.1

-- ---- bits are written from the sign and the size alone, and are read back as the value

same_bits : (f : Format) (x : Float) (s : Bool) (m : ℕ) (e : ℤ) → HasValue x s (m * up e) (down e) → to_bits f x ≡ to_bits f (fin s m e)
unfolding to_bits
same_bits f nan s m e v = elim v [ ]
same_bits f (inf _) s m e v = elim v [ ]
same_bits f (fin t n d) s m e v =
    let l = 2 ^ low f in
    rw (v.0, div_same (n * up d * l) (down d) (m * up e * l) (down e) (down_pos d) (down_pos e) (mul_right_comm (n * up d) l (down e) ∙ ap (λ (x : ℕ). x * l) v.1 ∙ mul_right_comm (m * up e) (down d) l))

-- a value that its format holds, rounded, is itself
pub round_self : (f : Format) (s : Bool) (m : ℕ) (e : ℤ) → T (fits f (fin s m e)) → round f s (m * up e) (down e) ≡ fin s m e
round_self f s m e t =
    let r = round f s (m * up e) (down e) in
    sym (of_bits-to_bits f r (round-fits f s (m * up e) (down e))) ∙ ap (of_bits f) (same_bits f r s m e (kept f s m e t)) ∙ of_bits-to_bits f (fin s m e) t

-- ---- times 1

-- any value that an f64 holds
pub times_one : (y : Float) → T (fits binary64 y) → y ⊗ 1·0 ≡ y
unfolding mul of_bits
times_one nan t = refl
times_one (inf true) t = refl
times_one (inf false) t = refl
times_one (fin true m e) t = rw (mul-one (m * up e), mul-one (down e), round_self binary64 true m e t)
times_one (fin false m e) t = rw (mul-one (m * up e), mul-one (down e), round_self binary64 false m e t)

-- A product times 1 is itself. Assumes nothing.
pub product_one : (x w : Float) → x ⊗ w ⊗ 1·0 ≡ x ⊗ w
product_one x w = times_one (x ⊗ w) (mul-fits binary64 x w)
