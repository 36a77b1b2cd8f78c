use Rattle.std.proofs.Common.{arith, map, option_map, ◌≡◌, ◌+◌, ◌-◌, ◌*◌, ◌/◌, ◌^◌, ap, ap₂, ◌∙◌, sym, subst}
use Rattle.std.proofs.lemmas.List.{length-map}
use Rattle.storage_merkle.specs.Shape.{size}
use Rattle.storage_merkle.specs.Hashing.{node_over}
use Rattle.storage_merkle.specs.Kept.{kept_at}
use Rattle.storage_merkle.specs.Rewriting.{over}
use Rattle.storage_merkle.proofs.MemNodes.{found, lent_some, seen, value_of, kept_some_at, clean_children}
use Rattle.storage_merkle.proofs.Rewriting.{over_is, room, children_over_at, child_value, above_is}
use Rattle.storage_merkle.proofs.merkle.mem.nodes.parent_digest.Goals as goal

pub position-position-requires-clause-aligned : goal.position-position-requires-clause-aligned
position-position-requires-clause-aligned g c = let o = over_is c.args.place c.args.height in
    rw (c.power.ensures, c.power-2.ensures) o.aligned

pub position-position-requires-clause-fits : goal.position-position-requires-clause-fits
position-position-requires-clause-fits g c = let r = room g.F.Family.shape g.met.F.Family.laws c.args.leaves
    c.args.place c.args.height c.requires.few c.requires.within c.requires.inner c.requires.small in
    rw (c.power.ensures, c.power-2.ensures) r.fits

pub position-requires-clause-aligned : goal.position-requires-clause-aligned
position-requires-clause-aligned g c = let r = room g.F.Family.shape g.met.F.Family.laws c.args.leaves c.args.place
    c.args.height c.requires.few c.requires.within c.requires.inner c.requires.small in
    rw (c.power.ensures, c.power-2.ensures) r.left

pub position-requires-clause-fits : goal.position-requires-clause-fits
position-requires-clause-fits g c = let r = room g.F.Family.shape g.met.F.Family.laws c.args.leaves c.args.place
    c.args.height c.requires.few c.requires.within c.requires.inner c.requires.small in
    rw (c.power.ensures, c.power-2.ensures) r.left_fits

pub unwrap-left-requires : goal.unwrap-left-requires
unwrap-left-requires g c =
    let S = g.F.Family.shape in
    let P = map g.H.Digest.Digest.text c.args.pinned.now in
    let Q = map g.H.Digest.Digest.text c.args.nodes.now in
    let f : c.args.place / c.power.result * c.power-2.result ≡ over c.args.place c.args.height =
    ap₂ (λ x y. c.args.place / x * y) c.power.ensures c.power-2.ensures in
    let i = children_over_at S g.met.F.Family.laws c.args.boundary c.args.leaves c.args.place c.args.height
    c.requires.inner c.requires.kept c.requires.there in
    let d = kept_some_at S g.met.F.Family.laws c.args.boundary (size S c.args.leaves) (over c.args.place c.args.height)
    (c.args.height - 1) c.position.result P Q (c.position.ensures ∙ ap (λ m. S.position m (c.args.height - 1)) f)
    i.0 (rw length-map c.requires.count) (rw length-map c.requires.pins) in
    lent_some (λ x. x.now) c.node_at_position.result (found g.H.Digest.Digest.text (option_map (λ x. x.now) c.node_at_position.result) (kept_at S c.args.boundary P Q c.position.result) d.0
    (seen g.H.Digest.Digest.text g.F.Family.shape c.args.boundary c.args.pinned.now c.args.nodes.now _ _
    c.node_at_position.ensures) d.1)

pub position-requires-2-clause-aligned : goal.position-requires-2-clause-aligned
position-requires-2-clause-aligned g c = let r = room g.F.Family.shape g.met.F.Family.laws c.args.leaves c.args.place
    c.args.height c.requires.few c.requires.within c.requires.inner c.requires.small in
    rw (c.power.ensures, c.power-2.ensures, c.power-half.ensures) r.right

pub position-requires-2-clause-fits : goal.position-requires-2-clause-fits
position-requires-2-clause-fits g c = let r = room g.F.Family.shape g.met.F.Family.laws c.args.leaves c.args.place
    c.args.height c.requires.few c.requires.within c.requires.inner c.requires.small in
    rw (c.power.ensures, c.power-2.ensures, c.power-half.ensures) r.right_fits

pub unwrap-right-requires : goal.unwrap-right-requires
unwrap-right-requires g c =
    let S = g.F.Family.shape in
    let P = map g.H.Digest.Digest.text c.args.pinned.now in
    let Q = map g.H.Digest.Digest.text c.args.nodes.now in
    let f : c.args.place / c.power.result * c.power-2.result ≡ over c.args.place c.args.height =
    ap₂ (λ x y. c.args.place / x * y) c.power.ensures c.power-2.ensures in
    let i = children_over_at S g.met.F.Family.laws c.args.boundary c.args.leaves c.args.place c.args.height
    c.requires.inner c.requires.kept c.requires.there in
    let d = kept_some_at S g.met.F.Family.laws c.args.boundary (size S c.args.leaves)
    (over c.args.place c.args.height + 2 ^ (c.args.height - 1)) (c.args.height - 1) c.position-2.result P Q
    (c.position-2.ensures ∙ ap₂ (λ m n. S.position (m + n) (c.args.height - 1)) f c.power-half.ensures) i.1
    (rw length-map c.requires.count) (rw length-map c.requires.pins) in
    lent_some (λ x. x.now) c.node_at_position-2.result (found g.H.Digest.Digest.text (option_map (λ x. x.now) c.node_at_position-2.result) (kept_at S c.args.boundary P Q c.position-2.result) d.0
    (seen g.H.Digest.Digest.text g.F.Family.shape c.args.boundary c.args.pinned.now c.args.nodes.now _ _
    c.node_at_position-2.ensures) d.1)

pub returns : goal.returns
returns g c list rest w clean =
    let S = g.F.Family.shape in
    let L = g.met.F.Family.laws in
    let b = g.H.Digest.Digest.text in
    let T = g.H.Hasher.layout c.args.hasher.now in
    let chunk = g.H.Hasher.chunk c.args.hasher.now in
    let node = node_over g.H.Hasher.hash_of T chunk list in
    let P = map b c.args.pinned.now in
    let Q = map b c.args.nodes.now in
    let h = c.args.height in
    let a = over c.args.place h in
    let f : c.args.place / c.power.result * c.power-2.result ≡ a =
    ap₂ (λ x y. c.args.place / x * y) c.power.ensures c.power-2.ensures in
    let at : c.new.result ≡ S.position a h = c.new.ensures ∙ c.position-position.ensures ∙ ap (λ m. S.position m h) f in
    let i = children_over_at S L c.args.boundary c.args.leaves c.args.place h c.requires.inner c.requires.kept
    c.requires.there in
    let o = over_is c.args.place h in
    let k = clean_children rest a h c.requires.inner clean in
    let x = child_value S L node rest c.args.boundary (size S c.args.leaves) c.args.place h a (h - 1) P Q i.0
    (rw length-map c.requires.count) w (omega (arith, c.requires.inner)) k.0 in
    let y = child_value S L node rest c.args.boundary (size S c.args.leaves) c.args.place h (a + 2 ^ (h - 1))
    (h - 1) P Q i.1 (rw length-map c.requires.count) w (omega (arith, c.requires.inner)) k.1 in
    above_is S L g.H.Hasher.hash_of T chunk list a h (b c.unwrap-left.result.now) (b c.unwrap-right.result.now)
    (b c.node_digest.result) c.requires.inner
    (value_of b (option_map (λ x. x.now) c.node_at_position.result) (kept_at S c.args.boundary P Q c.position.result) _ c.unwrap-left.result.now
    (seen g.H.Digest.Digest.text g.F.Family.shape c.args.boundary c.args.pinned.now c.args.nodes.now _ _
    c.node_at_position.ensures) (ap (option_map (λ x. x.now)) c.unwrap-left.ensures)
    (ap (kept_at S c.args.boundary P Q) (c.position.ensures ∙ ap (λ m. S.position m (h - 1)) f) ∙ x))
    (value_of b (option_map (λ x. x.now) c.node_at_position-2.result) (kept_at S c.args.boundary P Q c.position-2.result) _ c.unwrap-right.result.now
    (seen g.H.Digest.Digest.text g.F.Family.shape c.args.boundary c.args.pinned.now c.args.nodes.now _ _
    c.node_at_position-2.ensures) (ap (option_map (λ x. x.now)) c.unwrap-right.ensures) (ap (kept_at S c.args.boundary P Q) (c.position-2.ensures
    ∙ ap₂ (λ m n. S.position (m + n) (h - 1)) f c.power-half.ensures) ∙ y))
    (c.node_digest.ensures a h (record { aligned = o.aligned; at = sym at }))

pub node_digest-requires : goal.node_digest-requires
node_digest-requires g c =
    let S = g.F.Family.shape in
    let f : c.args.place / c.power.result * c.power-2.result ≡ over c.args.place c.args.height =
    ap₂ (λ x y. c.args.place / x * y) c.power.ensures c.power-2.ensures in
    let at : c.new.result ≡ S.position (over c.args.place c.args.height) c.args.height =
    c.new.ensures ∙ c.position-position.ensures ∙ ap (λ m. S.position m c.args.height) f in
    subst (λ q. g.H.Hasher.takes c.args.hasher.now q) (sym at) c.requires.takes
