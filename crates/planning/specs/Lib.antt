-- What the arguments of planning stand for (`Arguments`), and what its checks (`Facts`) and its work (`Work`, `Plan`) come to.
pub mod Arguments
pub mod Facts
pub mod Work
pub mod Plan
