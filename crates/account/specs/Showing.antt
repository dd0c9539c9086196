-- How an account is shown. Assumes nothing.
use Rattle.std.specs.Prelude.{ℕ, List, ◌++◌, codes, decimal}
use Rattle.account.specs.declared.accounts.Account.{Account}

-- each count behind the name of what it counts
abbrev pub account_text : Account → List ℕ
account_text a =
    codes "equations " ++ (decimal a.equations ++ (codes ", faults " ++ (decimal a.faults ++ (codes ", offers " ++ (decimal a.offers ++ (codes ", comments " ++ (decimal a.comments ++ (codes ", empty lines " ++ decimal a.empty))))))))
