-- What the queries show: the rows of a list, in its order.
use Rattle.std.proofs.Common.{◌≡◌, ◌⊎◌, inl, inr, ℕ, ◌+◌, ◌<◌, pos, List, [], ◌∷◌, map, Less, Equal, Option, None, Some, Result, Ok, Err, refl, sym, ap, ap₂, subst, ◌∙◌, arith}
use Rattle.std.specs.List.{flat_map, AllByRecursion}
use Rattle.std.specs.List.Sorted.{IsPermutation, IsSorted}
use Rattle.std.specs.Ordering.{ordering_then}
use Rattle.sqlite.specs.declared.types.Value.TheVariants.{Null, Int, Text as Words, Blob}
use Rattle.sqlite.specs.declared.error.Error.{Error}
use Rattle.sqlite.specs.Order.{Row}
use Rattle.sqlite.specs.Term.{Term, eval_all}
use Rattle.sqlite.specs.Tree.{Trees}
use Rattle.sqlite_value.proofs.OrderLemmas.{value_cmp-Int}
use Rattle.sqlite_trees.specs.Tree.{IsAscending}
use Rattle.sqlite.specs.Query.{Output, IsAnswer, output, output_cmp, matches_as, end, page}
use Rattle.sqlite.specs.Program.{overlay}
use Rattle.sqlite_sql.proofs.QueryLemmas.{output_cmp_total}
use Rattle.sqlite_keyed.proofs.SortLemmas.{sorted_unique}
use Rattle.sqlite.specs.Listing.{understood}
use Rattle.sqlite.specs.Clock.{timed}
use Rattle.sqlite_schema.specs.declared.command.Returning.{Returning}
use Rattle.sqlite.specs.State.{State, Shown, Survives, IsUnchanged, IsRolledBack, FailsToQuery, FailsToShow, IsNotRun, CommitsShowing}
use Rattle.sqlite.proofs.StateLemmas.{survives_then}
use Rattle.sqlite.proofs.Callers.{IsPlain, reads_as, never_commits}
use Rattle.storage_file.specs.Kept.{Agreement, Commit, Kept}
use Rattle.storage_file.specs.Tables.{agreed_cells, operation_cells, commit_cells, file_schema, stored, numbered, shown, shown_from, Lists}
use Rattle.storage_file.proofs.Texts.{Selects, query_of, agreed_project, operation_project, commit_project, select_agreed, select_operations, select_commits, select_agreed_is, select_operations_is, select_commits_is}
use Rattle.storage_file.proofs.ListLemmas.{int_less}

module _ {X : Type 0} (cells : X → Row) where
  abbrev out : ℕ → X → Output
  out number x = (Int (pos number) ∷ [], shown cells number x)

  abbrev outs : ℕ → List X → List Output
  outs number [] = []
  outs number (x ∷ xs) = out number x ∷ outs (number + 1) xs

  shown_outs : (number : ℕ) (xs : List X) → map (λ (o : Output). o.1) (outs number xs) ≡ shown_from cells number xs
  shown_outs number [] = refl
  shown_outs number (x ∷ xs) = ap (λ rows. shown cells number x ∷ rows) (shown_outs (number + 1) xs)

  module _ (tree : ℕ) (project : List Term) where
    below : (p q : ℕ) (x y : X) → p < q → output_cmp (query_of tree project) (out p x) (out q y) ≡ Less
    below p q x y h = ap (λ o. ordering_then o Equal) (value_cmp-Int (pos p) (pos q) ∙ int_less p q h)

    below_all : (p q : ℕ) (x : X) (ys : List X) → p < q → AllByRecursion (λ o. output_cmp (query_of tree project) (out p x) o ≡ Less) (outs q ys)
    below_all p q x [] h = tt
    below_all p q x (y ∷ ys) h = (below p q x y h, below_all p (q + 1) x ys (omega arith))

    ascending : (p : ℕ) (xs : List X) → IsAscending (λ a b. output_cmp (query_of tree project) a b ≡ Less) (outs p xs)
    ascending p [] = tt
    ascending p (x ∷ xs) = (below_all p (p + 1) x xs (omega arith), ascending (p + 1) xs)

    ordered_is : (all : List X) (xs : List Output) → IsPermutation (outs 0 all) xs → IsSorted (output_cmp (query_of tree project)) xs → xs ≡ outs 0 all
    ordered_is all xs = sorted_unique (output_cmp (query_of tree project)) (output_cmp_total (query_of tree project)) (outs 0 all) xs (ascending 0 all)

    module _ (shows : (n : ℕ) (x : X) → eval_all project ([] ∷ stored cells n x ∷ []) ≡ shown cells n x) where
      staged_outs : (p : ℕ) (xs : List X) → map (output (query_of tree project)) (flat_map (λ r. matches_as Null (λ _. []) [] end ([] ∷ r ∷ [])) (numbered cells p xs)) ≡ outs p xs
      staged_outs p [] = refl
      staged_outs p (x ∷ xs) = ap₂ (λ row rows. (Int (pos p) ∷ [], row) ∷ rows) (shows p x) (staged_outs (p + 1) xs)

      pub answers : (trees : Trees) (all : List X) (rows : List Row) → overlay trees [] tree ≡ trees tree → trees tree ≡ numbered cells 0 all → IsAnswer (query_of tree project) (overlay trees []) [] rows
          → rows ≡ shown_from cells 0 all
      answers trees all rows over is a =
          let staged = a.distinct ∙ ap (map (output (query_of tree project))) (a.grouped ∙ ap (flat_map (λ r. matches_as Null (λ _. []) [] end ([] ∷ r ∷ []))) (over ∙ is)) ∙ staged_outs 0 all in
          let ordered = ordered_is all a.ordered (subst (λ k. IsPermutation k a.ordered) staged a.same) a.sorted in
          a.shown ∙ ap (λ xs. page (query_of tree project) [] (map (λ (p : Output). p.1) xs)) ordered ∙ shown_outs 0 all

module _ (old new : State) (kept : Kept) (is : Lists old.now kept) (rows : List Row) where
  pub shows_agreed : Shown select_agreed [] old new rows → rows ≡ shown_from agreed_cells 0 (kept.agreed ∷ [])
  shows_agreed h =
      let s = select_agreed_is in
      answers agreed_cells 0 agreed_project (λ n x. refl) old.now.trees (kept.agreed ∷ []) rows refl is.rows.agreed ((reads_as select_agreed [] old new file_schema is.schema _ s.0 s.2 s.1 rows h).answer Null)

  pub shows_operations : Shown select_operations [] old new rows → rows ≡ shown_from operation_cells 0 kept.operations
  shows_operations h =
      let s = select_operations_is in
      answers operation_cells 1 operation_project (λ n x. refl) old.now.trees kept.operations rows refl is.rows.operations ((reads_as select_operations [] old new file_schema is.schema _ s.0 s.2 s.1 rows h).answer Null)

  pub shows_commits : Shown select_commits [] old new rows → rows ≡ shown_from commit_cells 0 kept.commits
  shows_commits h =
      let s = select_commits_is in
      answers commit_cells 2 commit_project (λ n x. refl) old.now.trees kept.commits rows refl is.rows.commits ((reads_as select_commits [] old new file_schema is.schema _ s.0 s.2 s.1 rows h).answer Null)

-- a query that is answered changes nothing
pub shown_same : (text : List ℕ) (old new : State) (rows : List Row) → IsPlain (understood file_schema text) → old.now.schema ≡ file_schema → Shown text [] old new rows → IsUnchanged old new
unfolding Shown
shown_same text old new rows plain has h =
    let known = sym h.1.is ∙ ap (λ s. understood s text) has in
    let bare = subst IsPlain (sym known) plain in
    (rw bare.0 at h.2).3

pub same_or_undone : (text : List ℕ) (old new : State) (e : Error) → FailsToQuery text [] old new e → IsUnchanged old new ⊎ IsRolledBack old new
unfolding FailsToQuery IsNotRun
same_or_undone text old new e (inl (inl unrun)) = inl unrun.1
same_or_undone text old new e (inl (inr failed)) = inr failed.3
same_or_undone text old new e (inr ran) = go ran.0.returning ran.2
  where
    go : (o : Option Returning) → FailsToShow old new text ran.0 (timed [] ran.0.formats ran.1.now) e o → IsUnchanged old new ⊎ IsRolledBack old new
    go None h = inl h.3
    go (Some what) (inl h) = inl h.1
    go (Some what) (inr h) = inr h.3

-- a query writes nothing to the disk
pub query_survives : (text : List ℕ) (old new : State) → IsPlain (understood file_schema text) → old.now.schema ≡ file_schema → Survives old new (CommitsShowing text [] old) → Survives old new (λ _. ⊥)
query_survives text old new plain has it = record {
  clean = it.clean;
  shield = it.shield;
  counts = it.counts;
  limit = it.limit;
  closes = it.closes;
  crash = λ clean db may. elim (it.crash clean db may) [
    | inl before ↦ inl before
    | inr commits ↦ absurd (never_commits text [] old db (subst (λ s. IsPlain (understood s text)) (sym has) plain) commits)
  ];
}
