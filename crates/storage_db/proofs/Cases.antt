-- Tests, options and lists, taken apart with what was found.
use Rattle.std.proofs.Common.{◌≡◌, Bool, true, false, cond, not, ◌&&◌, List, [], ◌∷◌, ◌++◌, Option, Some, None, is_some, IsSome, unwrap_or, Ordering, Less, Equal, Greater, is_eq, is_lt, is_le, is_gt, refl, sym, ap, ◌∙◌, true≢false, append-nil}
use Rattle.std.specs.Prelude.{MatchOption, Result, Ok, Err, IfOk, IfErr, OnOk, OnErr, is_err}
use Rattle.std.specs.Result.{IsErrAnd}
use Rattle.storage_db.specs.Rings.{last_of}

pub by_bool : {A : Type 0} (b : Bool) → (b ≡ true → A) → (b ≡ false → A) → A
by_bool true holds fails = holds refl
by_bool false holds fails = fails refl

pub by_option : {A T : Type 0} (o : Option T) → (o ≡ None → A) → ((t : T) → o ≡ Some t → A) → A
by_option None none held = none refl
by_option (Some t) none held = held t refl

pub by_list : {A T : Type 0} (l : List T) → (l ≡ [] → A) → ((x : T) (xs : List T) → l ≡ x ∷ xs → A) → A
by_list [] none held = none refl
by_list (x ∷ xs) none held = held x xs refl

pub by_order : {A : Type 0} (r : Ordering) → (r ≡ Less → A) → (r ≡ Equal → A) → (r ≡ Greater → A) → A
by_order Less less equal greater = less refl
by_order Equal less equal greater = equal refl
by_order Greater less equal greater = greater refl

pub clash : (b : Bool) → b ≡ true → b ≡ false → ⊥
clash b holds fails = true≢false (sym holds ∙ fails)

pub not_true : (b : Bool) → (b ≡ true → ⊥) → b ≡ false
not_true true none = absurd (none refl)
not_true false none = refl

pub cond_yes : {A : Type 0} (b : Bool) (x y : A) → b ≡ true → cond b x y ≡ x
cond_yes b x y holds = ap (λ (c : Bool). cond c x y) holds

pub cond_no : {A : Type 0} (b : Bool) (x y : A) → b ≡ false → cond b x y ≡ y
cond_no b x y fails = ap (λ (c : Bool). cond c x y) fails

pub and_true : (b : Bool) → (b && true) ≡ b
and_true true = refl
and_true false = refl

pub not_le : (r : Ordering) → not (is_le r) ≡ is_gt r
not_le Less = refl
not_le Equal = refl
not_le Greater = refl

pub equal_of : (r : Ordering) → is_eq r ≡ true → r ≡ Equal
equal_of Less h = absurd (clash _ h refl)
equal_of Equal h = refl
equal_of Greater h = absurd (clash _ h refl)

pub less_of : (r : Ordering) → is_lt r ≡ true → r ≡ Less
less_of Less h = refl
less_of Equal h = absurd (clash _ h refl)
less_of Greater h = absurd (clash _ h refl)

pub greater_of : (r : Ordering) → is_lt r ≡ false → is_eq r ≡ false → r ≡ Greater
greater_of Less h k = absurd (clash _ refl h)
greater_of Equal h k = absurd (clash _ refl k)
greater_of Greater h k = refl

pub cons_not_nil : {A : Type 0} (x : A) (xs : List A) → x ∷ xs ≡ [] → ⊥
cons_not_nil x xs e = cc

pub some_not_none : {A : Type 0} (x : A) → Some x ≡ None → ⊥
some_not_none x e = cc

pub heads : {A : Type 0} (x y : A) (xs ys : List A) → x ∷ xs ≡ y ∷ ys → x ≡ y
heads x y xs ys e = cc

pub somes : {A : Type 0} (x y : A) → Some x ≡ Some y → x ≡ y
somes x y e = cc

pub none_of : {A : Type 0} (o : Option A) → (IsSome o → ⊥) → o ≡ None
none_of None none = refl
none_of (Some x) none = absurd (none refl)

pub some_of : {A : Type 0} (o : Option A) → IsSome o → (x : A) × (o ≡ Some x)
some_of None h = absurd (clash _ h refl)
some_of (Some x) h = (x, refl)

pub match_map : {T : Type 0} (P Q : T → Type 0) → ((t : T) → P t → Q t) → (o : Option T) → MatchOption o (Unit {0}) P
    → MatchOption o (Unit {0}) Q
match_map P Q f None h = tt
match_map P Q f (Some t) h = f t h

-- ---- the last of a list

pub last_none : {A : Type 0} (xs : List A) → last_of xs ≡ None → xs ≡ []
last_none [] e = refl
last_none (x ∷ xs) e = absurd (some_not_none _ e)

pub last_right : {A : Type 0} (xs ys : List A) (y : A) → last_of ys ≡ Some y → last_of (xs ++ ys) ≡ Some y
last_right {A} [] ys y e = e
last_right {A} (x ∷ xs) ys y e = ap (λ (o : Option A). Some (unwrap_or o x)) (last_right xs ys y e)

pub last_left : {A : Type 0} (xs ys : List A) → last_of ys ≡ None → last_of (xs ++ ys) ≡ last_of xs
last_left {A} xs ys e = ap last_of (ap (λ (l : List A). xs ++ l) (last_none ys e) ∙ append-nil xs)

-- ---- results

pub if_ok : {T E : Type 0} (P Q : T → Type 0) (r : Result T E) → ((x : T) → P x → Q x) → IfOk r P → IfOk r Q
if_ok P Q (Ok x) f h = f x h
if_ok P Q (Err y) f h = tt

pub if_err : {T E : Type 0} (P Q : E → Type 0) (r : Result T E) → ((y : E) → P y → Q y) → IfErr r P → IfErr r Q
if_err P Q (Ok x) f h = tt
if_err P Q (Err y) f h = f y h

pub on_ok : {T E : Type 0} (P : Type 0) (r : Result T E) → is_err r ≡ false → OnOk r P → P
on_ok P (Ok x) passed h = h
on_ok P (Err y) passed h = absurd (cc)

pub on_refused : {T E : Type 0} (P : Type 0) (r : Result T E) → is_err r ≡ true → OnErr r P → P
on_refused P (Ok x) refused h = absurd (cc)
on_refused P (Err y) refused h = h

pub none_if : {A : Type 0} (o : Option A) → is_some o ≡ false → o ≡ None
none_if None fails = refl
none_if (Some x) fails = absurd (true≢false fails)

pub err_and : {T E : Type 0} (P Q : E → Type 0) (r : Result T E) → ((y : E) → P y → Q y) → IsErrAnd r P → IfErr r Q
err_and P Q (Ok x) f h = tt
err_and P Q (Err y) f h = f y h

pub ok_both : {T E P Q R : Type 0} (r : Result T E) → (P → Q → R) → OnOk r P → OnOk r Q → OnOk r R
ok_both (Ok x) f p q = f p q
ok_both (Err y) f p q = tt

pub err_both : {T E P Q R : Type 0} (r : Result T E) → (P → Q → R) → OnErr r P → OnErr r Q → OnErr r R
err_both (Ok x) f p q = tt
err_both (Err y) f p q = f p q

pub either_way : {T E P Q R : Type 0} (r : Result T E) → (P → R) → (Q → R) → OnOk r P → OnErr r Q → R
either_way (Ok x) f g p q = f p
either_way (Err y) f g p q = g q
