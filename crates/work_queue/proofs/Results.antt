-- What a clause on `Ok` gives where a test says that there is no `Err`.
use Rattle.std.proofs.Common.{◌≡◌, false, cond, Result, Ok, Err, is_ok, is_err, OnOk, refl}

module _ {X Y : Type 0} where
  pub ok_from : (r : Result X Y) (P : Type 0) → is_err r ≡ false → OnOk r P → P
  ok_from (Ok x) P h p = p
  ok_from (Err y) P h p = cc

  pub ok_chosen : {A : Type 0} (r : Result X Y) (a b : A) → is_err r ≡ false → cond (is_ok r) a b ≡ a
  ok_chosen (Ok x) a b h = refl
  ok_chosen (Err y) a b h = cc
