-- What comes of a line of images.
use Rattle.std.proofs.Common.{◌≡◌, Option, Some, IfSome, Result, Ok, Err, OnOk, refl, sym, subst}
use Rattle.log_groups.specs.Found.{AreKept}
use Rattle.log_groups.specs.Joined.{IfTaken}
use Rattle.log_groups.specs.declared.groups.Groups.{Groups}
use Rattle.log_groups.specs.declared.groups.Joined.{Joined}

pub always : {X E : Type 0} (r : Result X E) (P : Type 0) → P → OnOk r P
always (Ok x) P p = p
always (Err e) P p = tt

pub kept-on : (old mid new : Groups) → AreKept old mid → new ≡ mid → AreKept old new
kept-on old mid new h e = subst (λ g. AreKept old g) (sym e) h

pub kept : (old new : Groups) → new ≡ old → AreKept old new
kept old new e = kept-on old old new (record { groups = λ q. refl; total = refl }) e

pub if-taken : (P Q : Type 0) (o : Option Joined) (j k : Joined) → o ≡ Some j → j ≡ k → IfSome o (IfTaken P Q) → IfTaken P Q k
if-taken P Q o j k e f h = subst (λ i. IfTaken P Q i) f (subst (λ p. IfSome p (IfTaken P Q)) e h)
