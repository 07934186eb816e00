-- What each C form stands for, and the C form of each answer. An enum does not pass to C: its case is a number, and so is a bool. Elements and touching pairs
-- per two kinds pass as they are. Assumes nothing.
use Rattle.std.specs.Prelude.{ℕ, cond, not, eqb}
use Rattle.function.specs.declared.Elements.{Elements}
use Rattle.integrands.specs.declared.Term.{Term}
use Rattle.integrands.specs.declared.Term.TheVariants.{Bare, Scaled}
use Rattle.integrands.specs.declared.Integrand.{Integrand}
use Rattle.cell_pairs.specs.declared.WorkRecord.{WorkRecord}
use Rattle.plans.specs.declared.KindPairs.{KindPairs}
use Rattle.plans.specs.declared.PlanNumbers.{PlanNumbers}
use Rattle.plans.specs.Planning.{Planned, ready, refused as not_planned}
use Rattle.runs.specs.Runs.{Run, Reply, Answer, found, accepted, refused}
use Rattle.sparse_lists.specs.Sparse.{Gathered, kept, refused as not_gathered}
use Rattle.c_forms.specs.declared.CTerm.{CTerm}
use Rattle.c_forms.specs.declared.CIntegrand.{CIntegrand}
use Rattle.c_forms.specs.declared.CNumbers.{CNumbers}
use Rattle.c_forms.specs.declared.CPlanned.{CPlanned}
use Rattle.c_forms.specs.declared.CRun.{CRun}
use Rattle.c_forms.specs.declared.CRecord.{CRecord}
use Rattle.c_forms.specs.declared.CLooked.{CLooked}
use Rattle.c_forms.specs.declared.CAdded.{CAdded}
use Rattle.c_forms.specs.declared.CGathered.{CGathered}

-- ---- what a C form stands for

-- bare where `scaled` is 0, whatever the factor; for any other `scaled` the term carries the factor
abbrev pub term_of : CTerm → Term
term_of t = cond (eqb t.scaled 0) (Bare t.kind) (Scaled t.factor t.kind)

abbrev pub integrand_of : CIntegrand → Integrand
integrand_of f = record { terms = f.terms; first = term_of f.first; second = term_of f.second }

abbrev pub numbers_of : CNumbers → PlanNumbers
numbers_of n =
    record {
      cells = n.cells;
      vertices = n.vertices;
      edges = n.edges;
      triangles = n.triangles;
      quads = n.quads;
      touching = n.touching;
      distant = n.distant;
      pairs = n.pairs;
      rows = n.rows;
      columns = n.columns;
      test = n.test;
      trial = n.trial;
      integrand = integrand_of n.integrand;
    }

-- dense where `entries` is 0; for any other `entries` an entries run
abbrev pub run_of : CRun → Run
run_of c = record { numbers = numbers_of c.numbers; entries = not (eqb c.entries 0); position = c.position }

-- ---- the C form of each answer: `refusal` is 0 where the call is accepted, else the paper's number

-- planning's numbers, with the elements, of both kinds whether present or not, and the integrand as the host gave them
abbrev pub c_numbers : Elements → Elements → CIntegrand → PlanNumbers → CNumbers
c_numbers test trial f n =
    record {
      cells = n.cells;
      vertices = n.vertices;
      edges = n.edges;
      triangles = n.triangles;
      quads = n.quads;
      touching = n.touching;
      distant = n.distant;
      pairs = n.pairs;
      rows = n.rows;
      columns = n.columns;
      test = test;
      trial = trial;
      integrand = f;
    }

abbrev pub no_pairs : KindPairs
no_pairs = record { triangle_triangle = 0; triangle_quad = 0; quad_triangle = 0; quad_quad = 0 }

-- in their place where planning refuses: no cell
abbrev pub no_numbers : Elements → Elements → CIntegrand → CNumbers
no_numbers test trial f =
    record {
      cells = 0;
      vertices = 0;
      edges = 0;
      triangles = 0;
      quads = 0;
      touching = 0;
      distant = 0;
      pairs = no_pairs;
      rows = 0;
      columns = 0;
      test = test;
      trial = trial;
      integrand = f;
    }

abbrev pub c_planned : Elements → Elements → CIntegrand → Planned → CPlanned
c_planned test trial f (ready n) = record { refusal = 0; numbers = c_numbers test trial f n }
c_planned test trial f (not_planned v) = record { refusal = v; numbers = no_numbers test trial f }

-- a run that begins, with the numbers as the host gave them
abbrev pub c_run : CNumbers → Run → CRun
c_run n r = record { numbers = n; entries = cond r.entries 1 0; position = r.position }

-- the host's run at position p
abbrev pub moved : CRun → ℕ → CRun
moved c p = record { numbers = c.numbers; entries = c.entries; position = p }

abbrev pub c_record : WorkRecord → CRecord
c_record e = record { pattern = e.pattern; test_cell = e.test; trial_cell = e.trial }

-- in its place where look refuses
abbrev pub no_record : CRecord
no_record = record { pattern = 0; test_cell = 0; trial_cell = 0 }

-- the paper's number of an answer: 0 where the call is accepted
abbrev pub answer_number : Answer → ℕ
answer_number (found e) = 0
answer_number accepted = 0
answer_number (refused n) = n

abbrev pub answer_record : Answer → CRecord
answer_record (found e) = c_record e
answer_record accepted = no_record
answer_record (refused n) = no_record

-- the host's run goes back at the position that the call leaves it
abbrev pub c_looked : CRun → Reply → CLooked
c_looked c g = record { refusal = answer_number g.answer; run = moved c g.run.position; «record» = answer_record g.answer }

abbrev pub c_added : CRun → Reply → CAdded
c_added c g = record { refusal = answer_number g.answer; run = moved c g.run.position }

abbrev pub c_gathered : Gathered → CGathered
c_gathered (kept n) = record { refusal = 0; kept = n }
c_gathered (not_gathered v) = record { refusal = v; kept = 0 }
