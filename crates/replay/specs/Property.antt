-- What `replay` leaves has the third property, and that of an entries run. Assumes nothing.
use Rattle.std.specs.Prelude.{ℕ, ◌≡◌, refl, Bool, true, false, List, Float}
use Rattle.plans.specs.declared.PlanNumbers.{PlanNumbers}
use Rattle.plans.specs.Planning.{ready, Planning, Lists, plan}
use Rattle.plans.specs.Accepted.{ready_is}
use Rattle.runs.specs.Runs.{EntryLists}
use Rattle.runs.specs.Calls.{Call, Progress}
use Rattle.runs.specs.Beside.{embed}
use Rattle.runs.specs.ThirdProperty.{ThirdProperty}
use Rattle.runs.proofs.ThirdProperty.{property}
use Rattle.runs.specs.EntriesProperty.{EntriesProperty}
use Rattle.runs.proofs.EntriesProperty.{property as entries_of_lem}
use Rattle.replay.specs.Encoding.{put_answers}
use Rattle.replay.specs.Replay.{played, ended, replayed, replayed_matrix, replayed_lists, replayed_answers}

module _ (x : Planning) (l : Lists) (n : PlanNumbers) (e : plan x l ≡ ready n) (calls : List Call) (M : List Float) (lists : EntryLists) where
  -- replay hands back the run of q, and leaves its matrix, its entry lists and its answers
  pub record Leaves (entries : Bool) (q : Progress) : Type 0 where
    pub outcome : replayed x l entries calls M lists ≡ played q.run
    pub matrix : replayed_matrix x l entries calls M lists ≡ q.matrix
    pub lists' : replayed_lists x l entries calls M lists ≡ q.lists
    pub answers : (before : List ℕ) → replayed_answers x l entries calls M lists before ≡ put_answers q.answers before

  leaves : (entries : Bool) → Leaves entries (embed x entries (ended x l entries calls M lists))
  unfolding replayed replayed_matrix replayed_lists replayed_answers
  leaves entries =
      let none = (ready_is e).none in
      record { outcome = rw none; matrix = rw none; lists' = rw none; answers = λ before. rw none }

  pub replay_property : (q : Progress) × Leaves false q × ThirdProperty x calls M lists q
  replay_property = (_, leaves false, property x l n e calls M lists _ refl)

  pub replay_entries : (q : Progress) × Leaves true q × EntriesProperty x calls M lists q
  replay_entries = (_, leaves true, entries_of_lem x l n e calls M lists _ refl)
