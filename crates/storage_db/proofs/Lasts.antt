-- The last item that an iterator over a map gives.
use Rattle.std.proofs.Common.{◌≡◌, List, [], ◌∷◌, ◌++◌, Option, Some, None, option_map, refl, sym, ap, ◌∙◌}
use Rattle.std.specs.Map.Iter.{TakesLast}
use Rattle.storage_db.specs.Rings.{last_of}
use Rattle.storage_db.proofs.Cases.{last_right}

pub last_push : {X : Type 0} (t : List X) (x : X) → last_of (t ++ x ∷ []) ≡ Some x
last_push t x = last_right t (x ∷ []) x refl

pub last_taken : {A X : Type 0} (shows : A → X) (s t : List X) (r : Option A) → TakesLast shows s r t
    → option_map shows r ≡ last_of s
last_taken shows s t None h = sym (ap last_of h.0)
last_taken shows s t (Some x) h = sym (ap last_of h ∙ last_push t (shows x))
