-- A refused call changes nothing, whatever run, plan and arguments: the run comes back as it was, and matrix and entry lists stay. Assumes nothing.
use Rattle.std.specs.Prelude.{ℕ, zero, suc, ◌≡◌, refl}
use Rattle.std.proofs.Common.{arith}
use Rattle.plans.specs.Planning.{unless_refused}
use Rattle.runs.specs.Runs.{Plan, Answer, found, accepted, refused, answered, look_refusal, distant_refusal, touching_refusal, entries_refusal, look, add_distant, add_touching, add_entries, distant_matrix, touching_matrix, entries_written}
use Rattle.runs.specs.Calls.{Call, looks, adds_distant, adds_touching, adds_entries, Progress, reply_to, matrix_after, lists_after}

pub record Kept (l : Plan) (c : Call) (s : Progress) : Type 0 where
  pub run : (reply_to l c s).run ≡ s.run
  pub matrix : matrix_after l c s ≡ s.matrix
  pub lists : lists_after l c s ≡ s.lists

-- an answer that is a refusal's number has one that is not 0
none_found : {A : Type 0} (new old : A) (v n : ℕ) (a : Answer) → (a ≡ refused n → ⊥) → answered v a ≡ refused n → unless_refused v new old ≡ old
none_found new old zero n a h e = absurd (h e)
none_found new old (suc v) n a h e = refl

not_found : (n : ℕ) {e : _} → found e ≡ refused n → ⊥
not_found n q = let z : ◌≡◌ {A = ℕ} 0 1 = cc in omega arith

not_accepted : (n : ℕ) → accepted ≡ refused n → ⊥
not_accepted n q = let z : ◌≡◌ {A = ℕ} 0 1 = cc in omega arith

pub refused_keeps : (l : Plan) (c : Call) (s : Progress) (n : ℕ) → (reply_to l c s).answer ≡ refused n → Kept l c s
unfolding reply_to matrix_after lists_after look add_distant add_touching add_entries distant_matrix touching_matrix entries_written
refused_keeps l looks s n e = record { run = none_found _ _ (look_refusal s.run l) n _ (not_found n) e; matrix = refl; lists = refl }
refused_keeps l (adds_distant a) s n e =
    let v = distant_refusal s.run l s.matrix a in
    record { run = none_found _ _ v n _ (not_accepted n) e; matrix = none_found _ _ v n _ (not_accepted n) e; lists = refl }
refused_keeps l (adds_touching a) s n e =
    let v = touching_refusal s.run l s.matrix a in
    record { run = none_found _ _ v n _ (not_accepted n) e; matrix = none_found _ _ v n _ (not_accepted n) e; lists = refl }
refused_keeps l (adds_entries a) s n e =
    let v = entries_refusal s.run l s.lists a in
    record { run = none_found _ _ v n _ (not_accepted n) e; matrix = refl; lists = none_found _ _ v n _ (not_accepted n) e }
