-- What the code answers, in the words of the definitions. Assumes nothing.
use Rattle.std.specs.Prelude.{ℕ, ◌≡◌, Result, Ok, Err}
use Rattle.std.proofs.Common.{arith}
use Rattle.job.specs.declared.JobNumbers.{JobNumbers}
use Rattle.job.specs.declared.refusal.JobRefusal.{JobRefusal}
use Rattle.job.specs.declared.refusal.JobRefusal.TheVariants.{Malformed, TooLarge}
use Rattle.job.specs.Job as job
use Rattle.job.specs.Job.{JobRead}
use Rattle.job.specs.Head as head
use Rattle.job.specs.Head.{HeadRead}

-- the paper's number of a refusal
abbrev pub number_of : JobRefusal → ℕ
number_of Malformed = 12
number_of TooLarge = 13

-- the number of what a check answers: 0 where it passes
abbrev pub told : {A : Type 0} → Result A JobRefusal → ℕ
told (Ok _) = 0
told (Err refusal) = number_of refusal

abbrev pub job_told : Result JobNumbers JobRefusal → JobRead
job_told (Ok n) = job.Whole n
job_told (Err refusal) = job.Refused (number_of refusal)

abbrev pub head_told : Result ℕ JobRefusal → HeadRead
head_told (Ok C) = head.Cells C
head_told (Err refusal) = head.Refused (number_of refusal)

-- no refusal has the number 0
pub number_nonzero : (refusal : JobRefusal) → number_of refusal ≡ 0 → ⊥
number_nonzero Malformed e = absurd (omega (arith, e))
number_nonzero TooLarge e = absurd (omega (arith, e))
