-- Through C: what is promised of planning's answer, and the third property, from that answer on, on any list of calls; the like of an entries run, and its
-- sparse rows. Assumes nothing.
use Prim.Native.Nat.{ℕ, zero, suc, ◌*◌}
use Rattle.std.proofs.Common.{arith, sym, ◌∙◌}
use Rattle.std.specs.Prelude.{◌≡◌, refl, List, [], ◌∷◌, ◌++◌, Float}
use Rattle.std.proofs.Math.Path.{ap}
use Rattle.lists.specs.Fold.{over_agree}
use Rattle.grid.specs.Mesh.{Mesh}
use Rattle.plans.specs.Planning.{ready, Planning, Lists, planning_of, plan_refusal, plan_answer, plan, plan_numbers, plan_lists}
use Rattle.plans.specs.Promises.{Promised}
use Rattle.plans.proofs.Promises.{promised}
use Rattle.runs.specs.Runs.{Run, Plan, EntryLists, Answer, begin, begin_entries, record_of, look_refusal, distant_refusal, touching_refusal, entries_refusal, look, add_distant, add_touching, add_entries}
use Rattle.runs.specs.Calls.{Call, looks, adds_distant, adds_touching, adds_entries, Progress, reply_to, matrix_after, lists_after, call, call_all}
use Rattle.runs.specs.Listed.{plan_in}
use Rattle.runs.specs.ThirdProperty.{ThirdProperty}
use Rattle.runs.proofs.ThirdProperty.{third_property}
use Rattle.runs.specs.EntriesProperty.{EntriesProperty}
use Rattle.runs.proofs.EntriesProperty.{entries_property}
use Rattle.sparse_lists.specs.SparseProperty.{SparseProperty}
use Rattle.sparse_lists.proofs.SparseProperty.{sparse_of}
use Rattle.function.specs.declared.Elements.{Elements}
use Rattle.c_forms.specs.declared.CIntegrand.{CIntegrand}
use Rattle.c_forms.specs.declared.CPlanned.{CPlanned}
use Rattle.c_forms.specs.declared.CRun.{CRun}
use Rattle.c_forms.specs.Forms.{integrand_of, numbers_of, run_of, c_planned, c_run}
use Rattle.c_forms.specs.Calls.{CProgress, c_call, c_call_all}
use Rattle.c_forms.specs.Stands.{plan_stands, begin_stands, begin_entries_stands, look_stands, add_stands}

-- what the C side stands for
abbrev pub progress_of : CProgress → Progress
progress_of s = record { run = run_of s.run; matrix = s.matrix; lists = s.lists; answers = s.answers }

-- equal part by part
progress_is : {r r' : Run} {M : List Float} {e : EntryLists} (A : List Answer) {a a' : Answer} → r ≡ r' → a ≡ a'
    → ◌≡◌ {A = Progress} (record { run = r; matrix = M; lists = e; answers = A ++ (a ∷ []) }) (record { run = r'; matrix = M; lists = e; answers = A ++ (a' ∷ []) })
progress_is A e f = rw (e, f)

-- a call through C is the call of what the C side stands for
call_stands : (l : Plan) (c : Call) (s : CProgress) → progress_of (c_call l c s) ≡ call l c (progress_of s)
unfolding c_call call reply_to matrix_after lists_after look add_distant add_touching add_entries
call_stands l looks s =
    let h = look_stands s.run (look_refusal (run_of s.run) l) (record_of (run_of s.run) l) in
    progress_is s.answers h.run h.answer
call_stands l (adds_distant a) s =
    let h = add_stands s.run (distant_refusal (run_of s.run) l s.matrix a) in
    progress_is s.answers h.run h.answer
call_stands l (adds_touching a) s =
    let h = add_stands s.run (touching_refusal (run_of s.run) l s.matrix a) in
    progress_is s.answers h.run h.answer
call_stands l (adds_entries a) s =
    let h = add_stands s.run (entries_refusal (run_of s.run) l s.lists a) in
    progress_is s.answers h.run h.answer

-- so is a list of them
pub calls_stand : (l : Plan) (calls : List Call) (c : CRun) (M : List Float) (e : EntryLists) → progress_of (c_call_all l calls c M e) ≡ call_all l calls (run_of c) M e
unfolding c_call_all call_all
calls_stand l calls c M e =
    over_agree (λ (q : CProgress) (s : Progress). progress_of q ≡ s) (c_call l) (call l)
    (λ d q s e. call_stands l d q ∙ ap (call l d) e)
    calls _ _ refl

-- ---- from planning's answer in C

module _ (m : Mesh) (test trial : Elements) (batch : ℕ) (f : CIntegrand) (l : Lists) where
  -- planning's arguments, its answer in C, and the plan that it leaves
  abbrev x : Planning
  x = planning_of m test trial batch (integrand_of f)

  abbrev planned : CPlanned
  planned = c_planned test trial f (plan x l)

  abbrev left : Plan
  left = plan_in x (plan_lists x l)

  -- where its refusal is 0, planning answers with the numbers that it stands for
  accepted : planned.refusal ≡ 0 → plan x l ≡ ready (numbers_of planned.numbers)
  unfolding plan
  accepted = go (plan_refusal x l)
    where
      go : (n : ℕ) → (c_planned test trial f (plan_answer n (plan_numbers x))).refusal ≡ 0
          → plan_answer n (plan_numbers x) ≡ ready (numbers_of (c_planned test trial f (plan_answer n (plan_numbers x))).numbers)
      go zero e = ap ready (sym (plan_stands m test trial batch f))
      go (suc n) e = absurd (omega arith)

  -- all that is promised of planning
  pub promised_in_c : planned.refusal ≡ 0 → Promised x l (numbers_of planned.numbers)
  promised_in_c z = promised x l _ (accepted z)

  module _ (z : planned.refusal ≡ 0) (calls : List Call) (M : List Float) (lists : EntryLists) where
    -- the third property, from the run that `seivalto_begin` gives on planning's answer
    pub third_property_in_c : ThirdProperty x calls M lists (progress_of (c_call_all left calls (c_run planned.numbers (begin (numbers_of planned.numbers))) M lists))
    third_property_in_c =
        let n = planned.numbers in
        rw (calls_stand left calls (c_run n (begin (numbers_of n))) M lists, begin_stands n) (third_property x l (numbers_of n) (accepted z) calls M lists)

    -- the like from `seivalto_begin_entries`
    pub entries_property_in_c : EntriesProperty x calls M lists
        (progress_of (c_call_all left calls (c_run planned.numbers (begin_entries (numbers_of planned.numbers))) M lists))
    entries_property_in_c =
        let n = planned.numbers in
        rw (calls_stand left calls (c_run n (begin_entries (numbers_of n))) M lists, begin_entries_stands n) (entries_property x l (numbers_of n) (accepted z) calls M lists)

    -- and its sparse rows, where it is finished: p = C·C
    pub sparse_property_in_c : (let q = progress_of (c_call_all left calls (c_run planned.numbers (begin_entries (numbers_of planned.numbers))) M lists) in
        q.run.position ≡ x.mesh.cells * x.mesh.cells → SparseProperty x (numbers_of planned.numbers) calls q)
    sparse_property_in_c = sparse_of x l (numbers_of planned.numbers) (accepted z) calls M lists entries_property_in_c
