-- F1 and F2 of the paper, and beside them two whose sums are not exact, so that they tell another order of products apart, and three of several points.
-- Assumes nothing.
use Rattle.std.specs.Prelude.{refl, true, false, List, [], ◌∷◌, ◌++◌, pos, Float}
use Rattle.std.specs.Float.Ieee as Ieee
use Rattle.std.specs.Float.{fin, binary64}
use Rattle.lists.specs.Examples.{Example, example, Holds}
use Rattle.integrands.specs.declared.Integrand.{Integrand}
use Rattle.integrands.specs.declared.Term.TheVariants.{Bare}
use Rattle.integrands.specs.Examples.{0·, 1·, 2·, 3·, 4·, ½, ¼, opened_integrands}
use Rattle.lent_numbers.specs.Lent.{Touching, Distant, jdets_above0, touching_count, touching_lengths, touching_numbers, distant_counts, distant_lengths, distant_numbers}
use Rattle.lent_numbers.specs.Entries.{touching_value, touching_summand, touching_entry, distant_value, distant_summand, distant_entry}

-- opens the definitions of this crate and of those below it
unfoldable pub opened_lent_numbers : Unit {0}
unfolding opened_integrands jdets_above0 touching_count touching_lengths touching_numbers distant_counts distant_lengths distant_numbers touching_value touching_summand touching_entry distant_value distant_summand distant_entry
opened_lent_numbers = tt

-- one bare term of kind 0
abbrev single : Integrand
single = record { terms = 1; first = Bare 0; second = Bare 0 }

-- the geometry of one point: kind 0 reads its jdet alone
abbrev geometry : Float → List Float
geometry jdet = jdet ∷ 0· ∷ 0· ∷ 0· ∷ 0· ∷ 0· ∷ 0· ∷ 0· ∷ 0· ∷ 0· ∷ []

-- one point, t = r = 1: k0, weight, jdets
abbrev touching : Float → Float → Float → Float → Touching
touching k0 weight test_jdet trial_jdet =
    record {
      points = 1;
      weights = weight ∷ [];
      test_table = 1· ∷ [];
      trial_table = 1· ∷ [];
      kernel = k0 ∷ [];
      test_geometry = geometry test_jdet;
      trial_geometry = geometry trial_jdet;
    }

abbrev distant : Float → Float → Float → Float → Float → Distant
distant k0 test_weight trial_weight test_jdet trial_jdet =
    record {
      test_points = 1;
      trial_points = 1;
      test_weights = test_weight ∷ [];
      trial_weights = trial_weight ∷ [];
      test_table = 1· ∷ [];
      trial_table = 1· ∷ [];
      kernel = k0 ∷ [];
      test_geometry = geometry test_jdet;
      trial_geometry = geometry trial_jdet;
    }

-- F1: touching, kind 0, one point, k0 = 0.25, t = r = 1, weight 0.5, jdets 2 and 4: 1.0
abbrev pub f1 : Example
f1 = example (touching_entry single (touching ¼ ½ 2· 4·) 0 0) 1·

pub f1_holds : Holds f1
unfolding opened_lent_numbers
f1_holds = refl

-- F2: distant, same, both weights 0.5: 0.5
abbrev pub f2 : Example
f2 = example (distant_entry single (distant ¼ ½ ½ 2· 4·) 0 0) ½

pub f2_holds : Holds f2
unfolding opened_lent_numbers
f2_holds = refl

-- The numbers of the next two are those nearest to 1/3 and 1/10, by their bits; the results were worked out with C's doubles.
abbrev third : Float
third = Ieee.of_bits binary64 4599676419421066581

abbrev tenth : Float
tenth = Ieee.of_bits binary64 4591870180066957722

-- touching: the product of the jdets is rounded first. (With weight·test jdet rounded first the last bit is another.)
abbrev pub f1_rounded : Example
f1_rounded = example (touching_entry single (touching 1· third third tenth) 0 0) (Ieee.of_bits binary64 4577558741251091478)

pub f1_rounded_holds : Holds f1_rounded
unfolding opened_lent_numbers
f1_rounded_holds = refl

-- distant: value·(trial weight·trial jdet) is rounded before (test weight·test jdet) comes in
abbrev pub f2_rounded : Example
f2_rounded = example (distant_entry single (distant third third tenth tenth tenth) 0 0) (Ieee.of_bits binary64 4547826977311108659)

pub f2_rounded_holds : Holds f2_rounded
unfolding opened_lent_numbers
f2_rounded_holds = refl

-- Lists of more than one point. A point with jdet 1 and the normal (1,0,0)
abbrev along : List Float
along = 1· ∷ 1· ∷ 0· ∷ 0· ∷ 0· ∷ 0· ∷ 0· ∷ 0· ∷ 0· ∷ 0· ∷ []

-- touching, kind 1, two points: k1 is 1, then 2; weights 1, 2; test basis 0 is 1, 2 at the points, test basis 1 is 3, 4; the trial basis is 1. So the entries
-- are 1·1·1 + 2·2·2 and 1·3·1 + 2·4·2
abbrev pub two_points : Example
two_points =
    let f : Integrand = record { terms = 1; first = Bare 1; second = Bare 0 } in
    let a : Touching =
    record {
      points = 2;
      weights = 1· ∷ 2· ∷ [];
      test_table = 1· ∷ 2· ∷ 3· ∷ 4· ∷ [];
      trial_table = 1· ∷ 1· ∷ [];
      kernel = 0· ∷ 1· ∷ 0· ∷ 0· ∷ 0· ∷ 2· ∷ 0· ∷ 0· ∷ [];
      test_geometry = along ++ along;
      trial_geometry = along ++ along;
    } in
    example (touching_entry f a 0 0 ∷ touching_entry f a 1 0 ∷ []) (fin false 9 (pos 0) ∷ fin false 19 (pos 0) ∷ [])

pub two_points_hold : Holds two_points
unfolding opened_lent_numbers
two_points_hold = refl

-- distant, kind 0, two test points with weights 1, 2 and two trial points with weights 1, 4; k0 is 1, 2 at the first trial point, 3, 4 at the second. So the
-- entry is 1·1·1 + 3·4·1 + 2·1·2 + 4·4·2
abbrev pub four_pairs : Example
four_pairs =
    let a : Distant =
    record {
      test_points = 2;
      trial_points = 2;
      test_weights = 1· ∷ 2· ∷ [];
      trial_weights = 1· ∷ 4· ∷ [];
      test_table = 1· ∷ 1· ∷ [];
      trial_table = 1· ∷ 1· ∷ [];
      kernel = 1· ∷ 2· ∷ 3· ∷ 4· ∷ [];
      test_geometry = along ++ along;
      trial_geometry = along ++ along;
    } in
    example (distant_entry single a 0 0) (fin false 49 (pos 0))

pub four_pairs_hold : Holds four_pairs
unfolding opened_lent_numbers
four_pairs_hold = refl

-- the order of the points: test point 0 has the values 2^53 and 1, test point 1 has −2^53 and 0. Test points outermost, the 1 is lost beside 2^53
abbrev pub point_order : Example
point_order =
    let a : Distant =
    record {
      test_points = 2;
      trial_points = 2;
      test_weights = 1· ∷ 1· ∷ [];
      trial_weights = 1· ∷ 1· ∷ [];
      test_table = 1· ∷ 1· ∷ [];
      trial_table = 1· ∷ 1· ∷ [];
      kernel = fin false 1 (pos 53) ∷ fin true 1 (pos 53) ∷ 1· ∷ 0· ∷ [];
      test_geometry = along ++ along;
      trial_geometry = along ++ along;
    } in
    example (distant_entry single a 0 0) 0·

pub point_order_holds : Holds point_order
unfolding opened_lent_numbers
point_order_holds = refl
