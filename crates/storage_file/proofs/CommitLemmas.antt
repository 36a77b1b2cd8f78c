-- How a transaction ends.
use Rattle.std.proofs.Common.{◌≡◌, ◌⊎◌, inl, inr, ℕ, List, true, false, IsTrue, refl, sym, ap, subst, ◌∙◌, arith}
use Rattle.sqlite.specs.Tree.{Trees}
use Rattle.sqlite.specs.Effect.{Database, IsDatabase}
use Rattle.sqlite_catalog.specs.Listing.{IsSound}
use Rattle.sqlite.specs.declared.error.Error.{Error}
use Rattle.sqlite.specs.State.{State, HasCleanDisk, Survives, Shows as Becomes, IsUnchanged, IsRolledBack}
use Rattle.sqlite.specs.Steps.{FailsToCommit}
use Rattle.storage_file.specs.Kept.{Kept}
use Rattle.storage_file.specs.Tables.{no_schema, Lists, Holds, IsSettled, Shows, IsBlank, IsReady, StaysInside}

-- what a database that shows the lists leaves on the disk
pub held : (kept : Kept) (db : Database) → Lists db kept → IsDatabase db → Holds db.trees kept
held kept db is sound = record { sound = subst (λ s. IsSound s db.trees) is.schema sound; rows = is.rows }

pub held_blank : (db : Database) → db.schema ≡ no_schema → IsDatabase db → IsSound no_schema db.trees
held_blank db is sound = subst (λ s. IsSound s db.trees) is sound

-- a commit that is done is what the transaction made
pub committed : (last after : State) (kept : Kept) → IsReady last kept → Becomes last after last.now last.now false → Shows after kept
committed last after kept ready done = record {
  is_open = done.is_open;
  autocommit = done.mode;
  now = subst (λ d. Lists d kept) (sym done.now_is) ready.made.lists;
  committed = subst (λ d. Lists d kept) (sym done.committed_is) ready.made.lists;
  sound = subst IsDatabase (sym done.committed_is) ready.sound;
}

module _ (P : Database → Type 0) where
  -- a statement that changed nothing, or undid the transaction, leaves what was settled
  pub stays : (old new : State) → IsSettled P old → IsUnchanged old new ⊎ IsRolledBack old new → IsTrue new.is_open → IsSettled P new
  stays old new is (inl same) live = record {
    is_open = live;
    autocommit = same.0.mode ∙ is.autocommit;
    now = subst P (sym same.0.now_is) is.now;
    committed = subst P (sym same.0.committed_is) is.committed;
    sound = subst IsDatabase (sym same.0.committed_is) is.sound;
  }
  stays old new is (inr undone) live = record {
    is_open = live;
    autocommit = undone.autocommit;
    now = subst P (sym (undone.undone live).0) is.committed;
    committed = subst P (sym (undone.undone live).1) is.committed;
    sound = subst IsDatabase (sym (undone.undone live).1) is.sound;
  }

  -- a transaction that is undone leaves what was settled before it
  pub undone : (old start last after : State) → IsSettled P old → start.committed ≡ old.committed → StaysInside start last → HasCleanDisk last → IsRolledBack last after → IsTrue after.is_open → IsSettled P after
  undone old start last after is begun inside clean back live =
      let was = (inside.commit clean).committed (back.was_open live) ∙ begun in
      record {
        is_open = live;
        autocommit = back.autocommit;
        now = subst P (sym ((back.undone live).0 ∙ was)) is.committed;
        committed = subst P (sym ((back.undone live).1 ∙ was)) is.committed;
        sound = subst IsDatabase (sym ((back.undone live).1 ∙ was)) is.sound;
      }

  -- while it is open, a crash leaves what was committed
  pub leaves : (Q : Trees → Type 0) → ((db : Database) → P db → IsDatabase db → Q db.trees) → (s : State) → IsSettled P s → ((db : Trees) → IsTrue s.is_open → s.may_leave db → db ≡ s.committed.trees)
      → (db : Trees) → s.may_leave db → Q db
  leaves Q out s is settled db may = subst Q (sym (settled db is.is_open may)) (out s.committed is.committed is.sound)

-- the commit failed, and the transaction is undone
pub fails : (last after : State) (e : Error) → last.in_transaction ≡ true → FailsToCommit last after e → IsRolledBack last after
fails last after e inside (inl failed) = failed.3
fails last after e inside (inr ended) = absurd (let o = ended.1 in cc)

-- a crash by the end of the commit leaves what was before the transaction, or what it made
pub crashes : (old last after : State) (Before After : Trees → Type 0) → ((db : Trees) → old.may_leave db → Before db) → Survives old last (λ _. ⊥) → Survives last after (λ db. db ≡ last.now.trees)
    → HasCleanDisk after → (HasCleanDisk last → After last.now.trees) → (db : Trees) → after.may_leave db → Before db ⊎ After db
crashes old last after Before After was before commit clean made db may =
    let last_clean : HasCleanDisk last = omega (arith, commit.clean) in
    elim (commit.crash clean db may) [
      | inl early ↦ elim (before.crash last_clean db early) [ inl first ↦ inl (was db first) | inr none ↦ absurd none ]
      | inr late ↦ inr (subst After (sym late) (made last_clean))
    ]

-- a crash after the transaction was undone leaves what was before it
pub crashes_undone : (old last after : State) (Before : Trees → Type 0) → ((db : Trees) → old.may_leave db → Before db) → Survives old last (λ _. ⊥) → Survives last after (λ _. ⊥)
    → HasCleanDisk after → (db : Trees) → after.may_leave db → Before db
crashes_undone old last after Before was before back clean db may =
    let last_clean : HasCleanDisk last = omega (arith, back.clean) in
    elim (back.crash clean db may) [
      | inl early ↦ elim (before.crash last_clean db early) [ inl first ↦ was db first | inr none ↦ absurd none ]
      | inr none ↦ absurd none
    ]
