-- What std's `rem_euclid` gives of an angle by a turn: the angle's rest.
use Rattle.std.specs.Prelude.{◌≡◌, ◌-◌, ◌/◌, ◌%◌, ◌<◌, ℤ, pos, negsuc, nat_abs, ◌+ℤ◌, ◌*ℤ◌}
use Rattle.std.proofs.Common.{sym, ap, arith, div-add-mod', mod-lt}
use Rattle.std.specs.Int.{int_rem_euclid}
use Rattle.exact.specs.Whole.{ext, add_parts, up-mul, dn-mul, ord}
use Rattle.sines.specs.Angle.{rest_of}
use Rattle.sines.proofs.Quarters.{rest-is}

pub rest-euclid : (a : ℤ) → nat_abs (int_rem_euclid a (pos 3600)) ≡ rest_of a
rest-euclid (pos n) =
    let r : n % 3600 < 3600 = mod-lt n (omega arith) in
    sym (rest-is (pos n) (pos (n / 3600)) (pos (n % 3600)) (omega (arith, ord)) (omega (arith, ord, r)) (ap pos (sym (div-add-mod' n 3600))))
rest-euclid (negsuc n) =
    let r : n % 3600 < 3600 = mod-lt n (omega arith) in
    let k = negsuc (n / 3600) in
    let m = 3600 - 1 - n % 3600 in
    sym (rest-is (negsuc n) k (pos m) (omega (arith, ord)) (omega (arith, ord, r))
    (ext (negsuc n) (k *ℤ pos 3600 +ℤ pos m) (omega (arith, add_parts (k *ℤ pos 3600) (pos m), up-mul k (pos 3600), dn-mul k (pos 3600), div-add-mod' n 3600, r))))
