-- Of a key of any length, and of such a value, nothing but the bytes counts.
use Rattle.std.specs.Prelude.{◌&&◌, ◌||◌, if◌then◌else◌}
use Rattle.std.specs.Ordering.{is_lt, nat_cmp}
use Rattle.std.specs.Cmp.Lexicographic.{slice_cmp}
use Rattle.std.specs.declared.alloc.Global.{Global}
use Rattle.std.specs.declared.vec.Vec.{Vec}
use Rattle.std.proofs.Common.{◌≡◌, ℕ, List, ◌++◌, Bool, true, not, subst}
use Rattle.storage_codec.specs.Codec.{Answer}
use Rattle.storage_codec.specs.Parts.{vector_text}
use Rattle.storage_ops.specs.Operations.{Update}
use Rattle.storage_ops.specs.Variable.{variable_operation_text}
use Rattle.storage_current.specs.CurrentProofs.{IsActiveCurrent}
use Rattle.storage_current.specs.Keys.{Excludes}
use Rattle.storage_current.specs.KeyProofs.{Allows, Commit, Exclusion, KeyValue}
use Rattle.light_questions.specs.KeyParts.{Keys, Setting, has_sized, has_value, has_vector, keyed_in, lacks_value, string_keys, as_long}

module _ {K X : Type 0} (keys : Keys K X) (key : K) (s : Setting) where
  abbrev HasVector : Vec ℕ Global → Type 0
  HasVector value = (has_value {V = Vec ℕ Global} keys (λ v. vector_text v.items) variable_operation_text key value s).Accepted

  pub value_alike : (value w : Vec ℕ Global) → w.items ≡ value.items → HasVector w → HasVector value
  value_alike value w e a = record {
    proof = a.proof;
    next = a.next;
    read = a.read;
    accepted = subst (λ (t : List ℕ).
        IsActiveCurrent s.hash s.grafting a.proof
        (variable_operation_text (Update (keys.text key ++ vector_text t ++ keys.text a.next))) s.root) e a.accepted;
  }

-- whether one string is before another, and whether one stands in the span of two
abbrev is_before : List ℕ → List ℕ → Bool
is_before a b = is_lt (slice_cmp nat_cmp a b)

abbrev stands_in : List ℕ → List ℕ → List ℕ → Bool
stands_in start end key = if is_before start end then not (is_before key start) && is_before key end
    else not (is_before key start) || is_before key end

module _ (lower upper : ℕ) (s : Setting) (key w : Vec ℕ Global) (e : w.items ≡ key.items) where
  has_alike : {V : Type 0} (text : V → List ℕ) (value : V)
      → (has_value (string_keys lower upper) text variable_operation_text w value s).Accepted
      → (has_value (string_keys lower upper) text variable_operation_text key value s).Accepted
  has_alike text value a = record {
    proof = a.proof;
    next = a.next;
    read = a.read;
    accepted = subst (λ (t : List ℕ).
        IsActiveCurrent s.hash s.grafting a.proof
        (variable_operation_text (Update (vector_text t ++ text value ++ vector_text a.next.items))) s.root) e a.accepted;
  }

  pub has_vector_alike : (value : List ℕ) → (has_vector (string_keys lower upper) w value s).Accepted
      → (has_vector (string_keys lower upper) key value s).Accepted
  has_vector_alike value of =
      record { vector = of.vector; is = of.is; said = has_alike (λ v. vector_text v.items) of.vector of.said }

  pub has_sized_alike : (value : List ℕ) → (has_sized (string_keys lower upper) as_long w value s).Accepted
      → (has_sized (string_keys lower upper) as_long key value s).Accepted
  has_sized_alike value of =
      record { size = of.size; sized = of.sized; is = of.is; said = has_alike (λ v. v.bytes) of.sized of.said }

  module _ {V : Type 0} (text : V → List ℕ) where
    excluded_alike : (start next : Vec ℕ Global)
        → Excludes (keyed_in (string_keys lower upper) text variable_operation_text) start next w
        → Excludes (keyed_in (string_keys lower upper) text variable_operation_text) start next key
    excluded_alike start next x = record {
      other = subst (λ (t : List ℕ). vector_text t ≡ vector_text start.items → ⊥) e x.other;
      spanned = subst (λ (t : List ℕ). stands_in start.items next.items t ≡ true) e x.spanned;
    }

    allowed_alike : (x : Exclusion (Vec ℕ Global × V × Vec ℕ Global) V)
        → Allows (keyed_in (string_keys lower upper) text variable_operation_text) x w
        → Allows (keyed_in (string_keys lower upper) text variable_operation_text) x key
    allowed_alike (KeyValue proof update) a = excluded_alike update.0 update.2 a
    allowed_alike (Commit proof value) a = tt

    pub lacks_alike : {Y : Type 0} (view : V → Y) (value_at : List ℕ → Answer Y)
        → (lacks_value (string_keys lower upper) text view value_at variable_operation_text w s).Accepted
        → (lacks_value (string_keys lower upper) text view value_at variable_operation_text key s).Accepted
    lacks_alike view value_at a = record {
      proof = a.proof;
      read = a.read;
      accepted = record {
        allowed = allowed_alike a.proof a.accepted.allowed;
        accepted = a.accepted.accepted;
      };
    }
