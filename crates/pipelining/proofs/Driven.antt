-- The machine on a code form, as long as no question is answered no.
use Rattle.std.proofs.Common.{ℕ, zero, suc}
use Rattle.model.specs.Domains.{Domain}
use Rattle.model.specs.Issues.{Form}
use Rattle.model.specs.Driving.{Machine, land, issue_all}

module _ {V : Type 0} (dom : Domain V) (k : ℕ) (form : Form) where
  unfoldable pub driven : ℕ → Machine V → Machine V
  driven zero m = m
  driven (suc c) m = issue_all dom k c (form c) (land c (driven c m)) (land c (driven c m))
