-- What `==` answers.
use Rattle.std.specs.Prelude.{◌≡◌, ◌↔◌, Bool, true}

-- The two answer alike.
abbrev pub AnswersAs : {A : Type 0} → (A → A → Bool) → (A → A → Bool) → Type 0
AnswersAs {A} f g = (a b : A) → f a b ≡ g a b

-- Equal are exactly those that are seen alike.
abbrev pub EqualAsSeen : {A X : Type 0} → (A → A → Bool) → (A → X) → Type 0
EqualAsSeen {A} eq seen = (a b : A) → (eq a b ≡ true) ↔ (seen a ≡ seen b)

-- Equal is each value to itself alone.
abbrev pub EqualToItself : {A : Type 0} → (A → A → Bool) → Type 0
EqualToItself eq = EqualAsSeen eq (λ a. a)
