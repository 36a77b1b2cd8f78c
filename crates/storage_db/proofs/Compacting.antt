-- Databases whose oldest active updates are put again.
use Rattle.std.proofs.Common.{◌≡◌, ℕ, ◌+◌, ◌<◌, ◌≤◌, ◌^◌, Bool, false, List, [], ◌∷◌, ◌++◌, length, cond, Option, None, Some, is_some, option_map, is_eq, inl, inr, refl, sym, ap, ap₂, ◌∙◌, subst, arith, ltb-false}
use Rattle.std.specs.Cmp.{IsTotalOrder}
use Rattle.std.specs.List.{All}
use Rattle.std.specs.Prelude.{Result, Ok, Err, OnOk}
use Rattle.std.specs.declared.cmp.Ordering.{Ordering}
use Rattle.std.proofs.lemmas.List.{length-append}
use Rattle.storage_codec.specs.Digests.{HashFunction}
use Rattle.storage_current.specs.Keys.{Keyed, update_text, IsKeyed}
use Rattle.storage_current.specs.Snapshots.{Grafting}
use Rattle.storage_db.specs.declared.db.active.Active.{Active}
use Rattle.storage_db.specs.declared.db.ordered.compact.CompactError.{CompactError}
use Rattle.storage_db.specs.Rings.{next_key, previous}
use Rattle.storage_db.specs.Compacting.{AreMoved, AreOldest, IsCompact, IsCompacted, IsLeft, IsMovedOnce, IsNext, IsNotMoved, IsSoFar, IsStopped, PutsAgain, StandsAt, oldest}
use Rattle.storage_db.specs.Databases.{Command, Database, active_at, done, empty, is_full, least_location, put, relinked, run, updated}
use Rattle.storage_db.specs.Floors.{AreMarked, IsFirstMarked, IsMarked, floor_of}
use Rattle.storage_db.specs.Kept.{IsDone, IsMade, KeptDatabase, Keeps, pruned_of}
use Rattle.storage_db.specs.Parts.{place_of}
use Rattle.storage_db.proofs.Cases.{by_bool, cond_yes, cond_no, somes}
use Rattle.storage_db.proofs.Entries.{Sorted, lookup-insert}
use Rattle.storage_db.proofs.Appends.{IsNot}
use Rattle.storage_db.proofs.Placing.{Placed, elsewhere, other_key, place, updated_other, updated_placed}
use Rattle.storage_db.proofs.Committing.{least_end, least_found}
use Rattle.storage_db.proofs.Said.{AreSaid}
use Rattle.storage_db.proofs.Steps.{value_relinked}
use Rattle.storage_db.proofs.Lists.{Kept, done_kept}
use Rattle.storage_db.proofs.Floors.{each_of, first_is_least, least_reached, made_floored, made_marked}
use Rattle.storage_db.proofs.Forgetting.{counted, pruned_low}
use Rattle.storage_db.proofs.Made.{run_more}

-- ---- where a search for the oldest active update begins, and what it finds

module _ {K W : Type 0} {cmp : K → K → Ordering} (o : IsTotalOrder cmp) (bits : List Bool) (last : Option ℕ) (start : ℕ)
    (es : List (K × Active W)) (marked : AreMarked cmp bits last start es) where
  marked_low : start ≤ least_location es (length bits)
  marked_low =
      elim (least_reached (λ (c : K × Active W). (start ≤ c.1.location) × IsMarked bits last c.1.location) es (length bits)
      marked.each) [
        | inl same ↦ omega (arith, same, marked.within)
        | inr (c, is, at) ↦ omega (arith, is.0, at)
      ]

  marked_from : Sorted cmp es → (from : ℕ) → from ≤ least_location es (length bits) → AreMarked cmp bits last from es
  marked_from sorted from low = record {
    within = let end : least_location es (length bits) ≤ length bits = least_end es (length bits) in omega (arith, low, end);
    each = λ k d within.
        let least : All (λ (c : K × Active W). least_location es (length bits) ≤ c.1.location) es
        = each_of o (λ (a : Active W). least_location es (length bits) ≤ a.location) es sorted
        (λ q a at. least_found o es (length bits) q a at) in
        let own = least k d within in
        (omega (arith, low, own), (marked.each k d within).1);
    only = marked.only;
  }

-- ---- the oldest active update is put again

module _ {K W : Type 0} (e : Keyed K W) (is : IsKeyed e) where
  module _ (d : Database K W) (placed : Placed e is d) (k : K) (a : Active W)
      (stands : StandsAt e d.entries k (oldest d) a) (n : K) where
    abbrev after : Database K W
    after = updated e d k a.value n

    within : oldest d < length d.operations
    within =
        let own = placed.named k (ap is_some stands.there) in
        let same : own.1.active ≡ a = somes own.1.active a (sym own.1.there ∙ stands.there) in
        let place : own.1.active.location ≡ a.location = ap (λ (b : Active W). b.location) same in
        let below : own.1.active.location < length d.operations = own.1.written.within in
        omega (arith, place, below, stands.at)

    -- the update of another active key stands behind it
    later : (q : K) (b : Active W) → active_at e d.entries q ≡ Some b → (e.key q ≡ e.key k → ⊥) → oldest d < b.location
    later q b held apart =
        let own = placed.named q (ap is_some held) in
        let same : own.1.active ≡ b = somes own.1.active b (sym own.1.there ∙ held) in
        let not : own.1.active.location ≡ a.location → ⊥
        = subst (λ (o : Option (Active W)). IsNot (place o) own.1.active.location) stands.there
        (elsewhere e is d placed k q own.0 apart own.1) in
        let differs : oldest d ≡ b.location → ⊥
        = λ alike. not (ap (λ (x : Active W). x.location) same ∙ sym alike ∙ sym stands.at) in
        let low : oldest d ≤ b.location = least_found is.total d.entries (length d.operations) q b held in
        omega (arith, low, differs)

    each_later : All (λ (c : K × Active W). oldest d < c.1.location) after.entries
    each_later =
        let fresh : Active W = record { value = a.value; location = length d.operations } in
        each_of is.total (λ (b : Active W). oldest d < b.location) after.entries
        (updated_placed e is d placed k a.value n).sorted
        (λ q b held. by_bool (is_eq (e.cmp k q))
        (λ holds.
        let one : fresh ≡ b = somes fresh b
        (sym (lookup-insert is.total q k fresh d.entries ∙ cond_yes _ (Some fresh) (active_at e d.entries q) holds) ∙ held) in
        subst (λ (x : Active W). oldest d < x.location) one within)
        (λ fails. later q b (sym (updated_other e is d placed k a.value n q fails) ∙ held)
        (other_key e is d placed k a.value n q fails)))

    past_oldest : oldest d + 1 ≤ oldest after
    past_oldest =
        let more = length-append d.operations (update_text e k a.value n ∷ []) in
        elim (least_reached (λ (c : K × Active W). oldest d < c.1.location) after.entries (length after.operations) each_later) [
          | inl same ↦ let below : oldest d < length d.operations = within in omega (arith, same, below, more)
          | inr (c, past, at) ↦ omega (arith, past, at)
        ]

    after_compact : IsCompact e d after 1
    after_compact = record {
      values = value_relinked e is d k a.value n (ap (option_map (λ (b : Active W). b.value)) stands.there);
      last = refl;
      past = past_oldest;
    }

  module _ (said : AreSaid e) where
    one_moved : (d : Database K W) → Kept e is said d → (command : Command K W) → PutsAgain e d.entries (oldest d) command
        → is_full e d command ≡ false → Kept e is said (done e d command) × IsCompact e d (done e d command) 1
    one_moved d kept command again few =
        let k : K = again.key in
        let v : W = again.active.value in
        let n : K = next_key e.cmp d.entries k in
        let after : Database K W = updated e d k v n in
        let puts : put e d k v ≡ after = said.put_is d k v
        ∙ cond_yes _ after (relinked e after (previous e.cmp d.entries k) k) (ap is_some again.stands.there) in
        let P : Command K W → Type 0 = λ c. IsCompact e d (done e d c) 1 in (
          done_kept e is said d kept command (ltb-false (2 ^ 62) (length (done e d command).operations) few),
          subst P (sym again.is) (subst (λ (x : Database K W). IsCompact e d x 1) (sym puts)
              (after_compact d kept.placed k again.active again.stands n)),
        )

    pub all_moved : (commands : List (Command K W)) (d : Database K W) → Kept e is said d → AreOldest e d commands
        → IsCompact e d (run e d commands) (length commands)
    all_moved [] d kept are = record { values = λ key. refl; last = refl; past = omega arith }
    all_moved (c ∷ commands) d kept (again, few, more) =
        let one = one_moved d kept c again few in
        let rest : IsCompact e (done e d c) (run e (done e d c) commands) (length commands)
        = all_moved commands (done e d c) one.0 more in
        let first : oldest d + 1 ≤ oldest (done e d c) = one.1.past in
        let further : oldest (done e d c) + length commands ≤ oldest (run e (done e d c) commands) = rest.past in
        let both : IsCompact e d (run e (done e d c) commands) (length (c ∷ commands))
        = record {
          values = λ key. rest.values key ∙ one.1.values key;
          last = rest.last ∙ one.1.last;
          past = omega (arith, first, further);
        } in
        subst (λ (x : Database K W). IsCompact e d (run e x commands) (length (c ∷ commands)))
        (sym (cond_no (is_full e d c) d (done e d c) few)) both

-- ---- databases in memory

module _ {K W Y : Type 0} (e : Keyed K W) (is : IsKeyed e) (said : AreSaid e) (seen : W → Y) (h : HashFunction) (g : Grafting) where
  module _ (kept : KeptDatabase K W) (made : IsMade e seen h g kept) where
    abbrev of : Database K W
    of = run e empty made.0

    of_kept : Kept e is said of
    of_kept = (made_floored e is said made.0).0

    each_bit : length kept.bits ≡ length kept.operations
    each_bit = ap (λ (b : List Bool). length b) made.1.bits ∙ of_kept.placed.bit_each
        ∙ sym (counted e seen h g kept of made.1)

    abbrev least : ℕ
    least = least_location kept.entries (length kept.operations)

    least_by_bits : least_location kept.entries (length kept.bits) ≡ least
    least_by_bits = ap (least_location kept.entries) each_bit

    marked : AreMarked e.cmp kept.bits (place_of kept.last) (floor_of kept.last) kept.entries
    marked = made_marked e is said seen h g kept made

    -- none is active before the last floor
    pub search_start : floor_of kept.last ≤ least
    search_start = subst (λ (n : ℕ). floor_of kept.last ≤ n) least_by_bits
        (marked_low is.total kept.bits (place_of kept.last) (floor_of kept.last) kept.entries marked)

    -- and none of what is forgotten
    pub behind_pruned : pruned_of kept.last ≤ least
    behind_pruned =
        let low : pruned_of kept.last ≤ floor_of kept.last = pruned_low e seen h g of.last kept.last made.1.last in
        omega (arith, low, search_start)

    -- a search that begins before it finds the oldest
    pub oldest_found : (from : ℕ) → from ≤ least → (place : Option ℕ) → place ≡ place_of kept.last → (found : ℕ)
        → (from ≤ length kept.bits → IsFirstMarked kept.bits place from found) → found ≡ least
    oldest_found from low place place_is found finds =
        let sorted : Sorted e.cmp kept.entries = subst (λ (es : List (K × Active W)). Sorted e.cmp es) (sym made.1.entries)
        of_kept.placed.sorted in
        let lower : from ≤ least_location kept.entries (length kept.bits)
        = subst (λ (n : ℕ). from ≤ n) (sym least_by_bits) low in
        let here : AreMarked e.cmp kept.bits place from kept.entries
        = subst (λ (p : Option ℕ). AreMarked e.cmp kept.bits p from kept.entries) (sym place_is)
        (marked_from is.total kept.bits (place_of kept.last) (floor_of kept.last) kept.entries marked sorted from lower) in
        first_is_least is.total kept.bits place from found kept.entries here finds ∙ least_by_bits

    -- once it is put again, the oldest stands behind where it stood
    moved_past : (new : KeptDatabase K W) (location : ℕ) (command : Command K W) → PutsAgain e kept.entries location command
        → location ≡ least → IsDone e seen h g kept new command → location < least_location new.entries (length new.operations)
    moved_past new location command again at is_done =
        let result = is_done of made.1 in
        let place : location ≡ oldest of = at ∙ ap₂ least_location made.1.entries (counted e seen h g kept of made.1) in
        let here : PutsAgain e of.entries (oldest of) command
        = subst (λ (n : ℕ). PutsAgain e of.entries n command) place
        (subst (λ (es : List (K × Active W)). PutsAgain e es location command) made.1.entries again) in
        let past : oldest of + 1 ≤ oldest (done e of command) = (one_moved e is said of of_kept command here result.0).1.past in
        let now : least_location new.entries (length new.operations) ≡ oldest (done e of command)
        = ap₂ least_location result.1.entries (counted e seen h g new (done e of command) result.1) in
        omega (arith, place, past, now)

    pub once_moved : (new : KeptDatabase K W) (location : ℕ) → location ≡ least → length kept.operations ≤ length new.operations
        → {T E : Type 0} (r : Result T E)
        → OnOk r ((command : Command K W) × PutsAgain e kept.entries location command × IsDone e seen h g kept new command)
        → OnOk r (IsMovedOnce e seen h g kept new location)
    once_moved new location at more (Ok x) does = record {
      at = at;
      command = does.0;
      again = does.1;
      is_done = does.2;
      next = moved_past new location does.0 does.1 at does.2;
      more = more;
    }
    once_moved new location at more (Err y) does = tt

-- ---- one more of them

module _ {K W : Type 0} (e : Keyed K W) where
  one_more : (commands : List (Command K W)) (d : Database K W) → AreOldest e d commands → (command : Command K W)
      → PutsAgain e (run e d commands).entries (oldest (run e d commands)) command
      → is_full e (run e d commands) command ≡ false → AreOldest e d (commands ++ command ∷ [])
  one_more [] d are command again few = (again, few, tt)
  one_more (c ∷ commands) d (first, room, more) command again few =
      let at : cond (is_full e d c) d (done e d c) ≡ done e d c = cond_no (is_full e d c) d (done e d c) room in (
        first,
        room,
        one_more commands (done e d c) more command
            (subst (λ (x : Database K W). PutsAgain e (run e x commands).entries (oldest (run e x commands)) command) at again)
            (subst (λ (x : Database K W). is_full e (run e x commands) command ≡ false) at few),
      )

module _ {K W Y : Type 0} (e : Keyed K W) (seen : W → Y) (h : HashFunction) (g : Grafting) where
  none_moved : (d : Database K W) (kept : KeptDatabase K W) → Keeps e seen h g kept d → AreMoved e seen h g d 0 kept
  none_moved d kept keeps = record { commands = []; oldest = tt; count = refl; keeps = keeps }

  more_moved : (d : Database K W) (moved : ℕ) (kept new : KeptDatabase K W) → AreMoved e seen h g d moved kept
      → (location : ℕ) → location ≡ least_location kept.entries (length kept.operations)
      → (command : Command K W) → PutsAgain e kept.entries location command → IsDone e seen h g kept new command
      → AreMoved e seen h g d (moved + 1) new
  more_moved d moved kept new are location at command again is_done =
      let c : Database K W = run e d are.commands in
      let result = is_done c are.keeps in
      let place : location ≡ oldest c = at ∙ ap₂ least_location are.keeps.entries (counted e seen h g kept c are.keeps) in
      let here : PutsAgain e c.entries (oldest c) command
      = subst (λ (n : ℕ). PutsAgain e c.entries n command) place
      (subst (λ (es : List (K × Active W)). PutsAgain e es location command) are.keeps.entries again) in
      record {
        commands = are.commands ++ command ∷ [];
        oldest = one_more e are.commands d are.oldest command here result.0;
        count = length-append are.commands (command ∷ []) ∙ ap (λ (n : ℕ). n + 1) are.count;
        keeps = subst (λ (x : Database K W). Keeps e seen h g new x)
            (sym (run_more e are.commands command d ∙ cond_no _ c (done e c command) result.0)) result.1;
      }

  -- ---- so far

  pub none_yet : (old : KeptDatabase K W) (start : ℕ) → start ≤ least_location old.entries (length old.operations)
      → IsSoFar e seen h g old old 0 start
  none_yet old start low = record { are = λ d keeps. none_moved d old keeps; low = low; more = omega arith }

  pub one_further : (old kept new : KeptDatabase K W) (moved from location : ℕ) → IsSoFar e seen h g old kept moved from
      → IsMovedOnce e seen h g kept new location → IsSoFar e seen h g old new (moved + 1) (location + 1)
  one_further old kept new moved from location so_far once = record {
    are = λ d keeps. more_moved d moved kept new (so_far.are d keeps) location once.at once.command once.again once.is_done;
    low = let past : location < least_location new.entries (length new.operations) = once.next in omega (arith, past);
    more =
        let first : length old.operations ≤ length kept.operations = so_far.more in
        let then : length kept.operations ≤ length new.operations = once.more in
        omega (arith, first, then);
  }

  -- each update that stood before the end has been put again
  pub ended : (old kept new : KeptDatabase K W) (count moved from end : ℕ) → IsSoFar e seen h g old kept moved from → moved < count
      → end ≡ length old.operations → IsNext e seen h g kept new end None → (d : Database K W) → Keeps e seen h g old d
      → IsCompacted e seen h g d count new moved
  ended old kept new count moved from end so_far fewer all next d keeps =
      let same : length old.operations ≡ length d.operations = counted e seen h g old d keeps in
      let here : IsCompacted e seen h g d count kept moved
      = record {
        are = so_far.are d keeps;
        most = omega (arith, fewer);
        fewer = λ less. let past : end ≤ least_location kept.entries (length kept.operations) = next.1 in omega (arith, same, all, past);
      } in
      subst (λ (k : KeptDatabase K W). IsCompacted e seen h g d count k moved) (sym next.0) here

  -- as many as were asked for
  pub all_asked : (old kept : KeptDatabase K W) (count moved from : ℕ) → IsSoFar e seen h g old kept moved from → moved ≤ count
      → count ≤ moved → (d : Database K W) → Keeps e seen h g old d → IsCompacted e seen h g d count kept count
  all_asked old kept count moved from so_far most least d keeps =
      let same : moved ≡ count = omega (arith, most, least) in
      record {
        are = subst (λ (n : ℕ). AreMoved e seen h g d n kept) same (so_far.are d keeps);
        most = omega arith;
        fewer = λ less. absurd (omega (arith, less));
      }

  -- one was refused
  pub stopped : {F : Type 0} (reads : List ℕ → Command K W → Type 0) (old kept new : KeptDatabase K W) (count moved from end : ℕ)
      → IsSoFar e seen h g old kept moved from → moved < count → end ≡ length old.operations → (error told : CompactError F)
      → error ≡ told → IsLeft e reads seen h g kept new end told → (d : Database K W) → Keeps e seen h g old d
      → IsStopped e reads seen h g d count new error
  stopped {F} reads old kept new count moved from end so_far fewer all error told error_is left d keeps =
      let same : length old.operations ≡ length d.operations = counted e seen h g old d keeps in
      let before : least_location kept.entries (length kept.operations) < end = left.before in
      let here : IsStopped e reads seen h g d count kept told
      = record {
        moved = moved;
        fewer = fewer;
        are = so_far.are d keeps;
        left = omega (arith, same, all, before);
        why = left.why;
      } in
      subst (λ (k : KeptDatabase K W). IsStopped e reads seen h g d count k error) (sym left.same)
      (subst (λ (x : CompactError F). IsStopped e reads seen h g d count kept x) (sym error_is) here)

  -- ---- the next one

  pub left_there : {F : Type 0} (reads : List ℕ → Command K W → Type 0) (old new : KeptDatabase K W) (location end : ℕ)
      → location ≡ least_location old.entries (length old.operations) → location < end → new ≡ old → (error told : CompactError F)
      → error ≡ told → ((d : Database K W) → Keeps e seen h g old d → IsNotMoved e reads d location told)
      → IsLeft e reads seen h g old new end error
  left_there {F} reads old new location end at before same error told error_is why =
      subst (λ (x : CompactError F). IsLeft e reads seen h g old new end x) (sym error_is) (record {
        same = same;
        before = omega (arith, at, before);
        why = λ d keeps. subst (λ (n : ℕ). IsNotMoved e reads d n told)
            (at ∙ ap₂ least_location keeps.entries (counted e seen h g old d keeps))
            (why d keeps);
      })
