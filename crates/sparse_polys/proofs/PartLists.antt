-- Lists of parts with one occurrence of a part k removed.
use Rattle.std.proofs.Common.{ℕ, Bool, cond, List}
use Rattle.sym_model.specs.RaisedPart.{without_one}

-- xs without the first part that is k; xs itself if the flag says that a part k was removed before
abbrev pub rest_of : Bool → ℕ → List ℕ → List ℕ
rest_of found k xs = cond found xs (without_one k xs)
