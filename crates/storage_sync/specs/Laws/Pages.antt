-- A page that was written is read again, and what is read was written so.
use Rattle.std.proofs.Common.{◌≡◌, ℕ, Bool, List, [], ◌∷◌, ◌++◌, length, Ok, refl, sym, ap, subst, ◌∙◌, append_assoc, arith}
use Rattle.storage_codec.specs.Faults.{◌>>=◌}
use Rattle.storage_codec.specs.Parts.{IsBytes, vector_text}
use Rattle.storage_codec.specs.Codec.{front_at, vector_at}
use Rattle.storage_codec.specs.Laws.Reading.{bind_ok, ok_is, front_again, front_back}
use Rattle.storage_codec.specs.Laws.Varint.{vector_again, vector_back}
use Rattle.storage_merkle.specs.RangeProofs.{AreDigests}
use Rattle.storage_ops.specs.Laws.Reading.{tail_bytes, along}
use Rattle.storage_current.specs.CurrentSoundness.{HasDigests}
use Rattle.storage_current.specs.CurrentWire.{as_is, range_proof_text, range_proof_at}
use Rattle.storage_current.specs.Laws.CurrentWire.{current_again, current_back, held_digests}
use Rattle.storage_current.specs.Snapshots.{RangeProof}
use Rattle.storage_sync.specs.declared.sync.limits.Limits.{Limits}
use Rattle.storage_sync.specs.declared.sync.page.Page.{Page as Held}
use Rattle.storage_sync.specs.Held.{page_of}
use Rattle.storage_sync.specs.Pages.{Page}
use Rattle.storage_sync.specs.Messages.{list_at, list_text, page_text, page_at, AreShort, AreAdmitted, IsAdmittedPage}
use Rattle.storage_sync.specs.Laws.Lists.{AreAgain, list_again, list_back}

-- the digests of a page value have the size of its digests
pub held_page : {F D : Type 0} (text : D → List ℕ) (d : ℕ) → ((x : D) → length (text x) ≡ d) → (p : Held F D)
    → HasDigests d (page_of text p).proof
held_page text d sized p = held_digests text d sized p.proof

pub short_again : (most : ℕ) (xs : List (List ℕ)) → AreShort most xs → AreAgain vector_text (vector_at 0 most) xs
short_again most [] are = tt
short_again most (x ∷ xs) are =
    (λ rest. vector_again 0 most x rest (are.0.0, omega arith, are.0.1), short_again most xs are.1)

pub sized_again : (n : ℕ) (xs : List (List ℕ)) → AreDigests n xs → AreAgain as_is (front_at n) xs
sized_again n [] are = tt
sized_again n (x ∷ xs) are = (λ rest. front_again n x rest are.0, sized_again n xs are.1)

abbrev page_with : RangeProof → List (List ℕ) → List (List ℕ) → Page
page_with proof operations chunks = record { proof = proof; operations = operations; chunks = chunks }

module _ (there : Bool) (d n : ℕ) (limits : Limits) where
  -- a page whose range proof is read again is read again
  pub again_with : (p : Page) (rest : List ℕ)
      → ((more : List ℕ) → range_proof_at there d limits.max_digests (range_proof_text there p.proof ++ more) ≡ Ok (p.proof, more))
      → AreAdmitted n limits p.operations p.chunks → page_at there d n limits (page_text there p ++ rest) ≡ Ok (p, rest)
  again_with p rest proof ok =
      let operations = list_text vector_text p.operations in
      let chunks = list_text as_is p.chunks in
      let parts : page_text there p ++ rest ≡ range_proof_text there p.proof ++ (operations ++ (chunks ++ rest)) =
      append_assoc (range_proof_text there p.proof) (operations ++ chunks) rest
      ∙ ap (λ (t : List ℕ). range_proof_text there p.proof ++ t) (append_assoc operations chunks rest) in
      let count = ok.count in
      let few = ok.few_chunks in
      rw (
        parts,
        proof (operations ++ (chunks ++ rest)),
        list_again vector_text (vector_at 0 limits.max_operation_len) limits.max_ops p.operations (chunks ++ rest)
            ok.count ok.few_operations (short_again limits.max_operation_len p.operations ok.short),
        list_again as_is (front_at n) (length p.operations) p.chunks rest (omega (arith, count, few)) ok.few_chunks
            (sized_again n p.chunks ok.sized),
      ) refl

  pub page_again : (p : Page) (rest : List ℕ) → HasDigests d p.proof → IsAdmittedPage there n limits p
      → page_at there d n limits (page_text there p ++ rest) ≡ Ok (p, rest)
  page_again p rest has ok =
      again_with p rest (λ more. current_again there d limits.max_digests p.proof more has ok.proof) ok.lists

  pub page_back : (bytes : List ℕ) (p : Page) (rest : List ℕ) → IsBytes bytes → page_at there d n limits bytes ≡ Ok (p, rest)
      → bytes ≡ page_text there p ++ rest
  page_back bytes p rest fits e =
      let a = bind_ok {B = Page × List ℕ} (range_proof_at there d limits.max_digests bytes)
      (λ proof. list_at (vector_at 0 limits.max_operation_len) limits.max_ops proof.1 >>= λ operations.
      list_at (front_at n) (length operations.0) operations.1 >>= λ chunks.
      Ok (page_with proof.0 operations.0 chunks.0, chunks.1)) (p, rest) e in
      let b = bind_ok {B = Page × List ℕ} (list_at (vector_at 0 limits.max_operation_len) limits.max_ops a.0.1)
      (λ operations. list_at (front_at n) (length operations.0) operations.1 >>= λ chunks.
      Ok (page_with a.0.0 operations.0 chunks.0, chunks.1)) (p, rest) a.2 in
      let c = bind_ok {B = Page × List ℕ} (list_at (front_at n) (length b.0.0) b.0.1)
      (λ chunks. Ok (page_with a.0.0 b.0.0 chunks.0, chunks.1)) (p, rest) b.2 in
      let pair = ok_is (page_with a.0.0 b.0.0 c.0.0, c.0.1) (p, rest) c.2 in
      let x = current_back there d limits.max_digests bytes a.0.0 a.0.1 fits a.1 in
      let fits2 = tail_bytes (range_proof_text there a.0.0) a.0.1 (along _ _ x fits) in
      let y = list_back vector_text (vector_at 0 limits.max_operation_len)
      (λ bs t r f q. vector_back 0 limits.max_operation_len bs t r f q) limits.max_ops a.0.1 b.0.0 b.0.1 fits2 b.1 in
      let fits3 = tail_bytes (list_text vector_text b.0.0) b.0.1 (along _ _ y fits2) in
      let z = list_back as_is (front_at n) (λ bs t r f q. front_back n bs t r q) (length b.0.0) b.0.1 c.0.0 c.0.1 fits3 c.1 in
      let parts : page_text there (page_with a.0.0 b.0.0 c.0.0) ++ c.0.1 ≡ range_proof_text there a.0.0
      ++ (list_text vector_text b.0.0 ++ (list_text as_is c.0.0 ++ c.0.1)) =
      append_assoc (range_proof_text there a.0.0) (list_text vector_text b.0.0 ++ list_text as_is c.0.0) c.0.1
      ∙ ap (λ (t : List ℕ). range_proof_text there a.0.0 ++ t)
      (append_assoc (list_text vector_text b.0.0) (list_text as_is c.0.0) c.0.1) in
      subst (λ (q : Page × List ℕ). bytes ≡ page_text there q.0 ++ q.1) pair
      (x ∙ ap (λ (t : List ℕ). range_proof_text there a.0.0 ++ t)
      (y ∙ ap (λ (t : List ℕ). list_text vector_text b.0.0 ++ t) z) ∙ sym parts)
