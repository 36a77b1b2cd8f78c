-- Each list of commands is kept.
use Rattle.std.proofs.Common.{◌≡◌, ℕ, ◌+◌, ◌<◌, ◌≤◌, ◌^◌, Bool, cond, List, [], ◌∷◌, length, Option, Some, None, is_eq, refl, sym, ap, ◌∙◌, subst, ltb-false, arith}
use Rattle.std.specs.Prelude.{MatchOption}
use Rattle.std.proofs.lemmas.List.{length-append}
use Rattle.storage_codec.specs.Digests.{HashFunction}
use Rattle.storage_current.specs.CurrentSoundness.{OwnOperationProofsAreAccepted}
use Rattle.storage_current.specs.Keys.{Keyed, commit_text, IsKeyed}
use Rattle.storage_current.specs.Snapshots.{Grafting, IsGrafting}
use Rattle.storage_db.specs.Databases.{Committed, Database, empty, Command, Put, Delete, Commit, least_location, value_at, delete, commit, done, is_full, run, Maps, no_maps, changed, maps_after}
use Rattle.storage_db.specs.Promises.{IsSnapshotOf, AreAccepted}
use Rattle.storage_db.proofs.Cases.{by_bool, clash, some_not_none}
use Rattle.storage_db.proofs.Placing.{Placed}
use Rattle.storage_db.proofs.Committing.{Ring, is_snapshot_of, commit_placed, commit_ring}
use Rattle.storage_db.proofs.Said.{AreSaid, put_said}
use Rattle.storage_db.proofs.Accepted.{are_accepted}
use Rattle.storage_db.proofs.Steps.{put_placed, put_ring, put_last, put_value, delete_placed, delete_ring, delete_last, delete_value}

module _ {K W : Type 0} (e : Keyed K W) (is : IsKeyed e) (said : AreSaid e) where
  -- each active key has its update, and these form a ring
  pub record Kept (d : Database K W) : Type 0 where
    pub placed : Placed e is d
    pub ring : Ring e is d

  -- what is said of a last commit
  abbrev pub Committed_is : (K → Option W) → Committed K W → Type 0
  Committed_is map last = IsSnapshotOf e last.snapshot map × ((key : K) → value_at e last.entries key ≡ map key)

  -- a database has these maps
  pub record Agrees (d : Database K W) (m : Maps K W) : Type 0 where
    pub now : (key : K) → value_at e d.entries key ≡ m.now key
    pub committed : MatchOption d.last ((key : K) → m.committed key ≡ None) (Committed_is m.committed)

  pub empty_kept : Kept empty
  empty_kept = record {
    placed = record {
      bit_each = refl;
      sorted = tt;
      named = λ q h. absurd (clash _ h refl);
      only = λ i op h. let within : i < 0 = h.within in absurd (omega (arith, within));
      commit = tt;
    };
    ring = λ q m n. absurd (some_not_none n.active (sym n.there));
  }

  empty_agrees : Agrees empty no_maps
  empty_agrees = record { now = λ key. refl; committed = λ key. refl }

  stays : (d c : Database K W) → c.last ≡ d.last → (map : K → Option W)
      → MatchOption d.last ((key : K) → map key ≡ None) (Committed_is map)
      → MatchOption c.last ((key : K) → map key ≡ None) (Committed_is map)
  stays d c same map h =
      subst (λ (o : Option (Committed K W)). MatchOption o ((key : K) → map key ≡ None) (Committed_is map)) (sym same) h

  -- the value that a put or a delete sets, and the others
  set_same : (b : Bool) (o p q : Option W) → p ≡ q → cond b o p ≡ cond b o q
  set_same b o p q same = ap (λ (x : Option W). cond b o x) same

  pub one_more : (d : Database K W) (metadata : Option W) → length (commit e d metadata).operations ≤ 2 ^ 62
      → length d.operations + 1 ≤ 2 ^ 62
  one_more d metadata few = subst (λ (n : ℕ). n ≤ 2 ^ 62)
      (length-append d.operations (commit_text e metadata (least_location d.entries (length d.operations)) ∷ [])) few

  pub done_kept : (d : Database K W) → Kept d → (command : Command K W) → length (done e d command).operations ≤ 2 ^ 62
      → Kept (done e d command)
  done_kept d kept (Put k v) few = subst Kept (sym (said.put_is d k v)) (record {
    placed = put_placed e is d kept.placed kept.ring k v;
    ring = put_ring e is d kept.placed kept.ring k v;
  })
  done_kept d kept (Delete k) few = record {
    placed = delete_placed e is d kept.placed kept.ring k;
    ring = delete_ring e is d kept.placed kept.ring k;
  }
  done_kept d kept (Commit metadata) few =
      let more : length d.operations + 1 ≤ 2 ^ 62 = one_more d metadata few in
      subst Kept (sym (said.commit_is d metadata)) (record {
        placed = commit_placed e is d kept.placed kept.ring metadata more;
        ring = commit_ring e is d kept.placed kept.ring metadata more;
      })

  done_agrees : (d : Database K W) → Kept d → (m : Maps K W) → Agrees d m → (command : Command K W)
      → length (done e d command).operations ≤ 2 ^ 62 → Agrees (done e d command) (changed e m command)
  done_agrees d kept m agrees (Put k v) few =
      subst (λ (c : Database K W). Agrees c (changed e m (Put k v))) (sym (said.put_is d k v)) (record {
        now = λ q. put_value e is d kept.placed kept.ring k v q ∙ set_same (is_eq (e.cmp k q)) (Some v) _ _ (agrees.now q);
        committed = stays d (put_said e d k v) (put_last e is d kept.placed kept.ring k v) m.committed agrees.committed;
      })
  done_agrees d kept m agrees (Delete k) few = record {
    now = λ q. delete_value e is d kept.placed kept.ring k q ∙ set_same (is_eq (e.cmp k q)) None _ _ (agrees.now q);
    committed = stays d (delete e d k) (delete_last e is d kept.placed kept.ring k) m.committed agrees.committed;
  }
  done_agrees d kept m agrees (Commit metadata) few =
      subst (λ (c : Database K W). Agrees c (changed e m (Commit metadata))) (sym (said.commit_is d metadata)) (record {
        now = agrees.now;
        committed = (is_snapshot_of e is d kept.placed kept.ring metadata (one_more d metadata few) m.now agrees.now, agrees.now);
      })

  all_kept : (commands : List (Command K W)) (d : Database K W) (m : Maps K W) → Kept d → Agrees d m
      → Agrees (run e d commands) (maps_after e d m commands)
  all_kept [] d m kept agrees = agrees
  all_kept (c ∷ commands) d m kept agrees =
      let P : Bool → Type 0 = λ b. Agrees (run e (cond b d (done e d c)) commands)
      (maps_after e (cond b d (done e d c)) (cond b m (changed e m c)) commands) in
      by_bool (is_full e d c)
      (λ holds. subst P (sym holds) (all_kept commands d m kept agrees))
      (λ fails.
      let few : length (done e d c).operations ≤ 2 ^ 62 = ltb-false (2 ^ 62) (length (done e d c).operations) fails in
      subst P (sym fails) (all_kept commands (done e d c) (changed e m c) (done_kept d kept c few)
      (done_agrees d kept m agrees c few)))

  pub each_list : (commands : List (Command K W)) → Agrees (run e empty commands) (maps_after e empty no_maps commands)
  each_list commands = all_kept commands empty no_maps empty_kept empty_agrees

  -- ---- the proofs at the last commit

  module _ (h : HashFunction) (g : Grafting) (grafting : IsGrafting g) (own : OwnOperationProofsAreAccepted) where
    abbrev Accepts : Database K W → Type 0
    Accepts d = MatchOption d.last (Unit {0}) (AreAccepted e h g)

    accepts_stays : (d c : Database K W) → c.last ≡ d.last → Accepts d → Accepts c
    accepts_stays d c same accepts =
        subst (λ (o : Option (Committed K W)). MatchOption o (Unit {0}) (AreAccepted e h g)) (sym same) accepts

    done_accepts : (d : Database K W) → Kept d → Accepts d → (command : Command K W)
        → length (done e d command).operations ≤ 2 ^ 62 → Accepts (done e d command)
    done_accepts d kept accepts (Put k v) few =
        subst Accepts (sym (said.put_is d k v))
        (accepts_stays d (put_said e d k v) (put_last e is d kept.placed kept.ring k v) accepts)
    done_accepts d kept accepts (Delete k) few =
        accepts_stays d (delete e d k) (delete_last e is d kept.placed kept.ring k) accepts
    done_accepts d kept accepts (Commit metadata) few =
        let more : length d.operations + 1 ≤ 2 ^ 62 = one_more d metadata few in
        subst Accepts (sym (said.commit_is d metadata)) (are_accepted e is d kept.placed kept.ring metadata more h g grafting
        (is_snapshot_of e is d kept.placed kept.ring metadata more (λ key. value_at e d.entries key) (λ key. refl)).snapshot own)

    all_accepts : (commands : List (Command K W)) (d : Database K W) → Kept d → Accepts d → Accepts (run e d commands)
    all_accepts [] d kept accepts = accepts
    all_accepts (c ∷ commands) d kept accepts =
        let P : Bool → Type 0 = λ b. Accepts (run e (cond b d (done e d c)) commands) in
        by_bool (is_full e d c)
        (λ holds. subst P (sym holds) (all_accepts commands d kept accepts))
        (λ fails.
        let few : length (done e d c).operations ≤ 2 ^ 62 = ltb-false (2 ^ 62) (length (done e d c).operations) fails in
        subst P (sym fails) (all_accepts commands (done e d c) (done_kept d kept c few) (done_accepts d kept accepts c few)))

  pub each_accepted : OwnOperationProofsAreAccepted → (h : HashFunction) (g : Grafting) → IsGrafting g
      → (commands : List (Command K W)) → MatchOption (run e empty commands).last (Unit {0}) (AreAccepted e h g)
  each_accepted own h g grafting commands = all_accepts h g grafting own commands empty empty_kept tt
