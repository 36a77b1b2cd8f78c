-- Rows that are read one after the other.
use Rattle.std.proofs.Common.{◌≡◌, ◌≢◌, ℕ, zero, suc, ◌+◌, ◌<◌, pos, List, [], ◌∷◌, ◌++◌, length, map, take, get_or, Result, Ok, Err, IfOk, refl, sym, ap, ap₂, subst, ◌∙◌, arith}
use Rattle.std.proofs.lemmas.List.{take_more, map-append, length-map, length-take-le}
use Rattle.sqlite.specs.Order.{Row}
use Rattle.storage_file.specs.Kept.{Agreement, Commit}
use Rattle.storage_file.specs.Tables.{agreed_cells, operation_cells, commit_cells, shown, shown_from}

module _ {X : Type 0} (cells : X → Row) where
  length_shown : (number : ℕ) (xs : List X) → length (shown_from cells number xs) ≡ length xs
  length_shown number [] = refl
  length_shown number (x ∷ xs) = ap (λ n. suc n) (length_shown (number + 1) xs)

  shown_more : (number : ℕ) (xs : List X) (x : X) → shown_from cells number (xs ++ x ∷ []) ≡ shown_from cells number xs ++ shown cells (number + length xs) x ∷ []
  shown_more number [] x = ap (λ n. shown cells n x ∷ []) (omega arith)
  shown_more number (y ∷ ys) x =
      let same : (number + 1) + length ys ≡ number + length (y ∷ ys) = omega arith in
      ap (λ rows. shown cells number y ∷ rows) (shown_more (number + 1) ys x ∙ ap (λ n. shown_from cells (number + 1) ys ++ shown cells n x ∷ []) same)

  -- a row that is there shows an item
  row_at : (number : ℕ) (xs : List X) (i : ℕ) (d : Row) → i < length xs → (x : X) × (get_or (shown_from cells number xs) i d ≡ shown cells (number + i) x)
  row_at number [] i d low = absurd (omega arith)
  row_at number (x ∷ xs) zero d low = (x, ap (λ n. shown cells n x) (omega arith))
  row_at number (x ∷ xs) (suc i) d low =
      let rest = row_at (number + 1) xs i d (omega arith) in
      let same : (number + 1) + i ≡ number + suc i = omega arith in (rest.0, rest.1 ∙ ap (λ n. shown cells n rest.0) same)

  module _ {Y : Type 0} (f : Y → X) (rows : List Row) (i : ℕ) (row : Row) (items : List Y) (low : i < length rows) (is : row ≡ get_or rows i row) (so_far : take i rows ≡ shown_from cells 0 (map f items)) where
    so_many : length items ≡ i
    so_many = sym (length-map items f) ∙ sym (length_shown 0 (map f items)) ∙ sym (ap length so_far) ∙ length-take-le i rows (omega arith)

    pub next_row : (y : Y) → row ≡ shown cells (length items) (f y) → take (i + 1) rows ≡ shown_from cells 0 (map f (items ++ y ∷ []))
    next_row y here =
        let more = take_more rows i row low ∙ ap₂ (λ a b. a ++ b ∷ []) so_far (sym is ∙ here) in
        let place : length items ≡ 0 + length (map f items) = sym (length-map items f) ∙ (omega arith) in
        more ∙ ap (λ n. shown_from cells 0 (map f items) ++ shown cells n (f y) ∷ []) place ∙ sym (shown_more 0 (map f items) (f y)) ∙ ap (shown_from cells 0) (sym (map-append f items (y ∷ [])))

    -- a row that shows no item is of no list
    pub stuck : ((x : X) → row ≢ shown cells (length items) x) → (all : List X) → rows ≢ shown_from cells 0 all
    stuck none all whole =
        let low : i < length all = (let n = ap length whole ∙ length_shown 0 all in omega arith) in
        let there = row_at 0 all i row low in
        let place : 0 + i ≡ length items = omega (arith, so_many) in
        none there.0 (is ∙ ap (λ rs. get_or rs i row) whole ∙ there.1 ∙ ap (λ n. shown cells n there.0) place)

-- a list is told by its rows
module _ {X : Type 0} (cells : X → Row) (back : (x y : X) → cells x ≡ cells y → x ≡ y) where
  pub told_by : (number : ℕ) (xs ys : List X) → shown_from cells number xs ≡ shown_from cells number ys → xs ≡ ys
  told_by number [] [] same = refl
  told_by number [] (y ∷ ys) same = absurd (cc)
  told_by number (x ∷ xs) [] same = absurd (cc)
  told_by number (x ∷ xs) (y ∷ ys) same =
      let first : cells x ≡ cells y = cc in
      let rest : shown_from cells (number + 1) xs ≡ shown_from cells (number + 1) ys = cc in
      ap₂ (λ a b. a ∷ b) (back x y first) (told_by (number + 1) xs ys rest)

  pub if_told : {V E : Type 0} (f : V → List X) (r : Result V E) (rows : List Row) (all : List X) → rows ≡ shown_from cells 0 all → IfOk r (λ v. rows ≡ shown_from cells 0 (f v)) → IfOk r (λ v. f v ≡ all)
  if_told f (Ok v) rows all is h = told_by 0 (f v) all (sym h ∙ is)
  if_told f (Err e) rows all is h = tt

pub operation_back : (x y : List ℕ) → operation_cells x ≡ operation_cells y → x ≡ y
operation_back x y same = cc

pub commit_back : (x y : Commit) → commit_cells x ≡ commit_cells y → x ≡ y
commit_back x y same =
    let location : x.location ≡ y.location = cc in
    let floor : x.floor ≡ y.floor = cc in
    let root : x.root ≡ y.root = cc in λ i. record { location = location i; floor = floor i; root = root i }

pub agreed_back : (x y : Agreement) → agreed_cells x ≡ agreed_cells y → x ≡ y
agreed_back x y same =
    let family : x.family ≡ y.family = cc in
    let digest : x.digest ≡ y.digest = cc in
    let chunk_size : x.chunk_size ≡ y.chunk_size = cc in
    let key_encoding : x.key_encoding ≡ y.key_encoding = cc in
    let value_encoding : x.value_encoding ≡ y.value_encoding = cc in
    λ i. record { family = family i; digest = digest i; chunk_size = chunk_size i; key_encoding = key_encoding i; value_encoding = value_encoding i }
