-- Sites of nodes, and the digests that stand at sites, one step each.
use Rattle.std.proofs.Common.{◌≡◌, ℕ, zero, suc, ◌+◌, ◌^◌, List, [], ◌∷◌, length, map, Bool, true, if◌then◌else◌, refl, ap, ap₂, sym, ◌∙◌}
use Rattle.storage_codec.specs.Digests.{HashFunction}
use Rattle.storage_merkle.specs.Calc.{Site as CalcSite, Calc, given, leaf, node, be8, eval}
use Rattle.storage_merkle.specs.Hashing.{folded_forward, folded_backward}
use Rattle.storage_merkle.specs.Laws.Hashing.{eval-forward, eval-backward}
use Rattle.storage_merkle.specs.RangeProofs.{Proof, sites, sites_of, leading, trailing, fold_digest, own_digest, own_proof}
use Rattle.storage_merkle.specs.declared.merkle.bagging.Bagging.{Bagging}
use Rattle.storage_merkle.specs.Trees.{Layout, Content, Peak, bag, folded, unfolded, join_calc, node_calc, never, part, peaks_of, plain, whole_peak}
use Rattle.reference.specs.Sites.{site_of, forward_digest, backward_digest}
use Rattle.reference.specs.declared.site.Site.{Site}
use Rattle.reference.specs.declared.site.Site.TheVariants.{Front, Back}

-- a node that is given
pub apart_sites : (T : Layout) (cut : ℕ → ℕ → Bool) (k a : ℕ) → cut a k ≡ true
    → sites_of (node_calc T cut k a) ≡ node a k ∷ []
apart_sites T cut zero a c =
    ap (λ (b : Bool). sites_of (if b then given (node a zero) else leaf (be8 (T.shape.position a zero)) a)) c
apart_sites T cut (suc k) a c = ap (λ (b : Bool). sites_of (if b then given (node a (suc k))
    else join_calc T a (suc k) (node_calc T cut k a) (node_calc T cut k (a + 2 ^ k)))) c

-- folds of peaks
pub map_twice : (g : Calc → List ℕ) (f : Peak → Calc) (ps : List Peak) → map (λ p. g (f p)) ps ≡ map g (map f ps)
map_twice g f [] = refl
map_twice g f (p ∷ ps) = ap (λ ds. g (f p) ∷ ds) (map_twice g f ps)

forward_is : (h : HashFunction) (T : Layout) (content : Content) (ps : List Peak)
    → forward_digest h (map (λ p. eval h (plain h content) (part T never p)) ps)
    ≡ fold_digest h (plain h content) (bag (map (whole_peak T) ps) [])
forward_is h T content [] = refl
forward_is h T content (p ∷ ps) =
    ap (folded_forward h (eval h (plain h content) (whole_peak T p))) (map_twice (eval h (plain h content)) (whole_peak T) ps)
    ∙ sym (eval-forward h (plain h content) (whole_peak T p) (map (whole_peak T) ps))

backward_is : (h : HashFunction) (T : Layout) (content : Content) (ps : List Peak)
    → backward_digest h (map (λ p. eval h (plain h content) (part T never p)) ps)
    ≡ fold_digest h (plain h content) (bag [] (map (whole_peak T) ps))
backward_is h T content [] = refl
backward_is h T content (p ∷ ps) =
    ap (folded_backward h (eval h (plain h content) (whole_peak T p))) (map_twice (eval h (plain h content)) (whole_peak T) ps)
    ∙ sym (eval-backward h (plain h content) (whole_peak T p) (map (whole_peak T) ps))

module _ (h : HashFunction) (T : Layout) (b : Bagging) (content : Content) (n i low high : ℕ) where
  pub own_front : (s : Site) (ps : List Peak) (ds : List (List ℕ)) (d : List ℕ) → s ≡ Front
      → ps ≡ leading low (folded b i (peaks_of T n)) → ds ≡ map (λ p. eval h (plain h content) (part T never p)) ps
      → d ≡ forward_digest h ds → d ≡ own_digest h T b content n i low high (site_of s)
  own_front s ps ds d is peaks digests e =
      e ∙ ap (forward_digest h) digests ∙ forward_is h T content ps
      ∙ ap (λ (qs : List Peak). fold_digest h (plain h content) (bag (map (whole_peak T) qs) [])) peaks
      ∙ ap (λ (t : Site). own_digest h T b content n i low high (site_of t)) (sym is)

  pub own_back : (s : Site) (ps : List Peak) (ds : List (List ℕ)) (d : List ℕ) → s ≡ Back
      → ps ≡ trailing high (unfolded b i (peaks_of T n)) → ds ≡ map (λ p. eval h (plain h content) (part T never p)) ps
      → d ≡ backward_digest h ds → d ≡ own_digest h T b content n i low high (site_of s)
  own_back s ps ds d is peaks digests e =
      e ∙ ap (backward_digest h) digests ∙ backward_is h T content ps
      ∙ ap (λ (qs : List Peak). fold_digest h (plain h content) (bag [] (map (whole_peak T) qs))) peaks
      ∙ ap (λ (t : Site). own_digest h T b content n i low high (site_of t)) (sym is)

  pub own_from : (ss : List CalcSite) (ds : List (List ℕ)) (l : ℕ) → l ≡ n → n ≡ length content.elements
      → ss ≡ sites T low high b n i → ds ≡ map (own_digest h T b content n i low high) ss
      → record { leaves = l; inactive = i; digests = ds } ≡ own_proof h T b content i low high
  own_from ss ds l leaves count at digests =
      let all : ds ≡ map (own_digest h T b content n i low high) (sites T low high b n i) =
      digests ∙ ap (map (own_digest h T b content n i low high)) at in
      let made : ℕ → List (List ℕ) → Proof = λ m xs. record { leaves = m; inactive = i; digests = xs } in
      ap₂ made leaves all
      ∙ ap (λ (m : ℕ). made m (map (own_digest h T b content m i low high) (sites T low high b m i))) count
