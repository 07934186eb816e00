-- −0 plus a number is that number: a sum that starts from −0 starts from its first number. Assumes nothing.
use Rattle.std.specs.Prelude.{ℕ, zero, suc, ◌-◌, ◌*◌, ◌≡◌, refl, Bool, true, false, cond, T, ltb, Float}
use Rattle.std.proofs.Common.{zero-add, zero-mul, mul-one, one-mul, zero-lt-suc, arith, ap, ap₂, ◌∙◌, lt-ltb}
use Rattle.std.specs.Float.{nan, inf, fin, binary64}
use Rattle.std.specs.Float.Ieee.{up, down, fits, of_bits, round, sum, add, neg}
use Rattle.numbers.specs.Floats.{◌⊕◌, 0·0}
use Rattle.numbers.specs.One.{round_self}

-- the literal -0.0, as the compiler has it
abbrev pub −0·0 : Float
−0·0 = neg 0·0

sum_none : (t : Bool) (b c : ℕ) → sum binary64 true 0 t b c ≡ round binary64 t b c
unfolding sum
sum_none true b c = ap (λ (x : ℕ). round binary64 true x c) (zero-add b)
sum_none false zero c = refl
sum_none false (suc b) c =
    let all : suc b - 0 ≡ suc b = omega arith in
    ap (λ (t : Bool). cond t (round binary64 false (suc b - 0) c) (round binary64 (ltb (suc b) 0) (0 - suc b) c)) (lt-ltb 0 (suc b) (zero-lt-suc b))
    ∙ ap (λ (x : ℕ). round binary64 false x c) all

pub minus_zero_plus : (x : Float) → T (fits binary64 x) → −0·0 ⊕ x ≡ x
unfolding add neg of_bits
minus_zero_plus nan t = refl
minus_zero_plus (inf s) t = refl
minus_zero_plus (fin s m e) t =
    ap (λ (a : ℕ). sum binary64 true a s (m * up e * 1) (1 * down e)) (zero-mul (down e))
    ∙ sum_none s (m * up e * 1) (1 * down e)
    ∙ ap₂ (λ (a b : ℕ). round binary64 s a b) (mul-one (m * up e)) (one-mul (down e))
    ∙ round_self binary64 s m e t
