-- What a database's own proofs, written, are answered.
use Rattle.std.proofs.Common.{◌≡◌, ℕ, List, Option, Some, None, option_map, sym, ap, subst}
use Rattle.std.specs.Prelude.{MatchOption, IsSomeAnd, Result, Ok, Err, IfErr}
use Rattle.std.specs.Result.{IsErrAnd}
use Rattle.storage_codec.specs.Digests.{HashFunction}
use Rattle.storage_current.specs.HeldKeys.{exclusion_seen}
use Rattle.storage_current.specs.KeyProofs.{Exclusion, KeyValue, Commit, Allows, proof_in, shown_text}
use Rattle.storage_current.specs.Keys.{Keyed, Updates}
use Rattle.storage_current.specs.KeyWire.{IsAdmittedExclusion}
use Rattle.storage_current.specs.Snapshots.{Grafting, Snapshot, IsSnapshot, IsActive, OperationProof, canonical_root, own_operation_proof}
use Rattle.storage_db.specs.declared.db.active.Active.{Active}
use Rattle.storage_db.specs.Databases.{Committed, active_at}
use Rattle.storage_db.specs.Kept.{KeptCommit, KeepsCommit}
use Rattle.storage_db.specs.Promises.{AreAccepted}
use Rattle.storage_db.specs.Rings.{next_key, previous}
use Rattle.storage_db.specs.Shown.{IsValueProof, IsAbsenceProof, absence_by}
use Rattle.commonware_storage.specs.LightDatabases.{AdmitsNext, AdmitsShown, AdmitsAbsence}

some_not_none : {A : Type 0} (x : A) → Some x ≡ None → ⊥
some_not_none x e = cc

somes : {A : Type 0} (x y : A) → Some x ≡ Some y → x ≡ y
somes x y e = cc

no_kind : {U V : Type 0} (p q : OperationProof) (u : U) (v : Option V) → KeyValue p u ≡ Commit q v → ⊥
no_kind p q u v e = cc

-- what an exclusion shows, as it is written: an update, or a commit's value
abbrev Shown : Type 0
Shown = Exclusion (List ℕ × List ℕ × List ℕ) (List ℕ)

abbrev update_shown : OperationProof → List ℕ × List ℕ × List ℕ → Shown
update_shown proof update = KeyValue proof update

abbrev commit_shown : OperationProof → Option (List ℕ) → Shown
commit_shown proof value = Commit proof value

-- what two that are shown alike have alike
updates_alike : (p q : OperationProof) (a b : List ℕ × List ℕ × List ℕ) → update_shown p a ≡ update_shown q b → a ≡ b
updates_alike p q a b e = cc

commits_alike : (p q : OperationProof) (v w : Option (List ℕ)) → commit_shown p v ≡ commit_shown q w → v ≡ w
commits_alike p q v w e = cc

-- what a call that is refused passes on
pub err_and : {T E : Type 0} (P Q : E → Type 0) (r : Result T E) → ((y : E) → P y → Q y) → IsErrAnd r P → IfErr r Q
err_and P Q (Ok x) f h = tt
err_and P Q (Err y) f h = f y h

-- before the first commit
pub none_told : {C B : Type 0} (f : C → B) (o : Option C) → None ≡ option_map f o → (P : Type 0) (Q : C → Type 0) → P
    → MatchOption o P Q
none_told f None same P Q p = p
none_told f (Some c) same P Q p = absurd (some_not_none (f c) (sym same))

module _ {K W Y : Type 0} (e : Keyed K W) (seen : W → Y) (h : HashFunction) (g : Grafting) where
  whole : (commit : Committed K W) (last : Option (KeptCommit K W))
      → IsSomeAnd last (λ c. KeepsCommit e seen h g c commit) → IsSnapshot commit.snapshot
  whole commit None keeps = absurd keeps
  whole commit (Some c) keeps = keeps.whole

  -- what is said of the last commit of a database that commands made: it is kept in memory, its proofs are accepted, and this is its
  -- root
  pub record IsLast (o : Option (Committed K W)) (last : Option (KeptCommit K W)) (root : List ℕ) : Type 0 where
    pub keeps : MatchOption o (last ≡ None) (λ commit. IsSomeAnd last (λ c. KeepsCommit e seen h g c commit))
    pub accepted : MatchOption o (Unit {0}) (AreAccepted e h g)
    pub root_is : Some root ≡ option_map (λ (commit : Committed K W). canonical_root h g commit.snapshot) o

  pub value_shown : (o : Option (Committed K W)) (last : Option (KeptCommit K W)) (root : List ℕ) → IsLast o last root
      → (key : K) (value : W) (next : K) (proof : OperationProof)
      → IsSomeAnd o (λ commit. IsValueProof e h g commit key value next proof) → (P : Type 0)
      → ((s : Snapshot) → IsSnapshot s → (location : ℕ) → proof ≡ own_operation_proof h g s location
      → Updates e s location key value next → root ≡ canonical_root h g s → P)
      → P
  value_shown None last root is key value next proof shown P f = absurd shown
  value_shown (Some commit) last root is key value next proof shown P f =
      let own = is.accepted.own_values key value next proof shown in
      f commit.snapshot (whole commit last is.keeps) proof.location own.own own.active (somes root _ is.root_is)

  pub absence_shown : (o : Option (Committed K W)) (last : Option (KeptCommit K W)) (root : List ℕ) → IsLast o last root
      → (key : K) (x : Exclusion (K × W × K) W) → IsSomeAnd o (λ commit. IsAbsenceProof e h g commit key x) → (P : Type 0)
      → ((s : Snapshot) → IsSnapshot s → proof_in x ≡ own_operation_proof h g s (proof_in x).location
      → IsActive s (proof_in x).location (shown_text e x) → Allows e x key → root ≡ canonical_root h g s → P)
      → P
  absence_shown None last root is key x shown P f = absurd shown
  absence_shown (Some commit) last root is key x shown P f =
      let own = is.accepted.own_absences key x shown in
      f commit.snapshot (whole commit last is.keeps) own.own own.active (is.accepted.absences key x shown).allowed
      (somes root _ is.root_is)

module _ {K W : Type 0} (e : Keyed K W) (h : HashFunction) (g : Grafting) where
  -- ---- why a proof is refused

  -- for the same reason
  pub same_why : {E : Type 0} (P Q R : E → Type 0) (o : Option (Committed K W)) (key : K) (x y : E) → x ≡ y
      → MatchOption o (P y) (λ commit. MatchOption (active_at e commit.entries key) (Q y) (λ _. R y))
      → MatchOption o (P x) (λ commit. MatchOption (active_at e commit.entries key) (Q x) (λ _. R x))
  same_why {E} P Q R o key x y same why =
      subst (λ (z : E). MatchOption o (P z) (λ commit. MatchOption (active_at e commit.entries key) (Q z) (λ _. R z)))
      (sym same) why

  -- for want of memory, where there is one
  pub value_refused : (o : Option (Committed K W)) (key : K) (value : W) (next : K) (proof : OperationProof)
      → IsSomeAnd o (λ commit. IsValueProof e h g commit key value next proof) → (N A M : Type 0) → M
      → MatchOption o N (λ commit. MatchOption (active_at e commit.entries key) A (λ _. M))
  value_refused None key value next proof shown N A M m = absurd shown
  value_refused (Some commit) key value next proof shown N A M m =
      subst (λ (a : Option (Active W)). MatchOption a A (λ _. M)) (sym shown.there) m

  pub absence_refused : (o : Option (Committed K W)) (key : K) (x : Exclusion (K × W × K) W)
      → IsSomeAnd o (λ commit. IsAbsenceProof e h g commit key x) → (N M P : Type 0) → M
      → MatchOption o N (λ commit. MatchOption (active_at e commit.entries key) M (λ _. P))
  absence_refused None key x shown N M P m = absurd shown
  absence_refused (Some commit) key x shown N M P m =
      subst (λ (a : Option (Active W)). MatchOption a M (λ _. P)) (sym shown.absent) m

  -- ---- what the readers admit

  module _ (Key : K → Type 0) where
    pub next_admitted : (o : Option (Committed K W)) (key : K) (value : W) (next : K) (proof : OperationProof)
        → IsSomeAnd o (λ commit. IsValueProof e h g commit key value next proof) → IsSomeAnd o (AdmitsNext e Key key) → Key next
    next_admitted None key value next proof shown admits = absurd shown
    next_admitted (Some commit) key value next proof shown admits = admits next shown.next_is

    module _ (Value Metadata : W → Type 0) where
      abbrev IsAdmitted : Exclusion (K × W × K) W → Type 0
      IsAdmitted = IsAdmittedExclusion (λ _. Unit {0}) (λ u. Key u.0 × Value u.1 × Key u.2) Metadata

      admitted_by : (commit : Committed K W) (x : Exclusion (K × W × K) W) (before : Option (K × Active W))
          → exclusion_seen e.key e.value x ≡ absence_by e h g commit before → AdmitsShown e Key Value Metadata commit before
          → IsAdmitted x
      admitted_by commit (KeyValue proof u) (Some p) same admits =
          let first : List ℕ × List ℕ × List ℕ = (e.key u.0, e.value u.1, e.key u.2) in
          let second : List ℕ × List ℕ × List ℕ = (e.key p.0, e.value p.1.value, e.key (next_key e.cmp commit.entries p.0)) in
          let alike : first ≡ second = updates_alike _ _ first second same in
          let all = admits u.0 u.1 (ap (λ (t : List ℕ × List ℕ × List ℕ). t.0) alike)
          (ap (λ (t : List ℕ × List ℕ × List ℕ). t.1) alike) in
          (tt, (all.0, all.1, all.2 u.2 (ap (λ (t : List ℕ × List ℕ × List ℕ). t.2) alike)))
      admitted_by commit (Commit proof None) None same admits = (tt, tt)
      admitted_by commit (Commit proof (Some v)) None same admits = (tt, admits v (commits_alike _ _ _ _ same))
      admitted_by commit (KeyValue proof u) None same admits = absurd (no_kind _ _ _ _ same)
      admitted_by commit (Commit proof v) (Some p) same admits = absurd (no_kind _ _ _ _ (sym same))

      pub shown_admitted : (o : Option (Committed K W)) (key : K) (x : Exclusion (K × W × K) W)
          → IsSomeAnd o (λ commit. IsAbsenceProof e h g commit key x)
          → IsSomeAnd o (AdmitsAbsence e Key Value Metadata key) → IsAdmitted x
      shown_admitted None key x shown admits = absurd shown
      shown_admitted (Some commit) key x shown admits =
          admitted_by commit x (previous e.cmp commit.entries key) shown.own admits
