-- Parts that are equal as they are seen make values that are.
use Rattle.std.proofs.Common.{◌≡◌, Bool, ◌&&◌, [], ◌∷◌, map, Some, None, option_map, nat_eq, refl, sym, ap, ap₂, ◌∙◌, eq-eqb, eqb-true}
use Rattle.std.specs.Cmp.Derive.{both_true}
use Rattle.std.specs.Cmp.Lexicographic.{pointwise}
use Rattle.std.specs.Option.{option_eq}
use Rattle.std.proofs.lemmas.Bool.{and_parts}
use Rattle.storage_merkle.specs.Equality.{EqualAsSeen}

pub equal_numbers : EqualAsSeen nat_eq (λ n. n)
equal_numbers a b = (eqb-true a b, eq-eqb a b)

module _ {A X : Type 0} {eq : A → A → Bool} {seen : A → X} (same : EqualAsSeen eq seen) where
  pub equal_lists : EqualAsSeen (pointwise eq) (map seen)
  equal_lists [] [] = (λ t. refl, λ e. refl)
  equal_lists [] (y ∷ ys) = (λ t. cc, λ e. cc)
  equal_lists (x ∷ xs) [] = (λ t. cc, λ e. cc)
  equal_lists (x ∷ xs) (y ∷ ys) = (
    λ t. let both = and_parts (eq x y) (pointwise eq xs ys) t in
        ap₂ (λ u us. u ∷ us) ((same x y).0 both.0) ((equal_lists xs ys).0 both.1),
    λ (e : seen x ∷ map seen xs ≡ seen y ∷ map seen ys).
        let first : seen x ≡ seen y = cc in
        let rest : map seen xs ≡ map seen ys = cc in
        both_true ((same x y).1 first) ((equal_lists xs ys).1 rest),
  )

  pub equal_options : EqualAsSeen (option_eq eq) (option_map seen)
  equal_options None None = (λ t. refl, λ e. refl)
  equal_options None (Some y) = (λ t. cc, λ e. cc)
  equal_options (Some x) None = (λ t. cc, λ e. cc)
  equal_options (Some x) (Some y) = (
    λ t. ap Some ((same x y).0 t),
    λ (e : Some (seen x) ≡ Some (seen y)). let inner : seen x ≡ seen y = cc in (same x y).1 inner,
  )

  -- the same of a part of each value
  pub equal_on : {B : Type 0} (part : B → A) → EqualAsSeen (λ x y. eq (part x) (part y)) (λ x. seen (part x))
  equal_on part x y = same (part x) (part y)

  -- the same where values are seen in another way that tells as much
  pub equal_seen : {Y : Type 0} (make : X → Y) (back : Y → X) → ((x : X) → back (make x) ≡ x)
      → EqualAsSeen eq (λ a. make (seen a))
  equal_seen make back undone a b = (
    λ t. ap make ((same a b).0 t),
    λ e. (same a b).1 (sym (undone (seen a)) ∙ ap back e ∙ undone (seen b)),
  )

  pub equal_both : {Y : Type 0} {eq' : A → A → Bool} {seen' : A → Y} → EqualAsSeen eq' seen'
      → EqualAsSeen {X = X × Y} (λ x y. eq x y && eq' x y) (λ x. (seen x, seen' x))
  equal_both {eq' = eq'} same' x y = (
    λ t. let both = and_parts (eq x y) (eq' x y) t in ap₂ (λ u v. (u, v)) ((same x y).0 both.0) ((same' x y).0 both.1),
    λ e. both_true ((same x y).1 (ap (λ p. p.0) e)) ((same' x y).1 (ap (λ p. p.1) e)),
  )
