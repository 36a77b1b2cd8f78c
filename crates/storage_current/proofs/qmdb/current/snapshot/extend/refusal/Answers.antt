use Rattle.std.proofs.Common.{◌≡◌, ◌≤◌, ◌<◌, ◌+◌, ◌^◌, ℕ, min, ap, ◌∙◌, arith, inl, inr, refl}
use Rattle.std.proofs.lemmas.Bool.{cases_lt}
use Rattle.storage_merkle.specs.declared.merkle.error.Error.TheVariants.{LocationOverflow}
use Rattle.storage_ops.specs.declared.qmdb.error.Error.TheVariants.{Merkle}
use Rattle.storage_current.specs.Extended.{AreWithin}
use Rattle.storage_current.proofs.qmdb.current.snapshot.extend.refusal.Goals as goal

pub returns-in-Some : goal.returns-in-Some
returns-in-Some g c = inr (inl (c.if-bits-count.false, c.in-Some.ensures))

pub returns-then-as_u64 : goal.returns-then-as_u64
returns-then-as_u64 g c =
    let past : c.args.leaves + c.args.count < c.args.floor = omega (
      arith,
      c.saturating_add-end.ensures,
      c.new.ensures,
      c.as_u64.ensures,
      c.as_u64-2.ensures,
      c.as_u64.type_inv,
      c.if-as_u64.true,
    ) in
    inr (inr (inl (c.if-bits-count.false, c.in_default.ensures, past, refl)))

pub returns-then-not-is_valid : goal.returns-then-not-is_valid
returns-then-not-is_valid g c =
    let end : c.saturating_add-end.result ≡ min (c.args.leaves + c.args.count) 18446744073709551615 =
    c.saturating_add-end.ensures ∙ ap (λ (l : ℕ). min (l + c.args.count) 18446744073709551615) c.new.ensures in
    let large : 2 ^ 62 < c.saturating_add-end.result = elim (cases_lt (2 ^ 62) c.saturating_add-end.result) [
      | inl more ↦ more
      | inr valid ↦ absurd (let no = c.if-not-is_valid.ensures.1 valid in cc)
    ] in
    let within : AreWithin c.args.pruned c.args.leaves c.args.count c.args.clear.now c.args.floor = record {
      earlier = c.in_default.ensures;
      inside = omega (arith, end, c.as_u64.ensures, c.as_u64-2.ensures, c.if-as_u64.false);
    } in
    let past : 2 ^ 62 < c.args.leaves + c.args.count = omega (arith, end, large) in
    inr (inr (inr (inl (c.if-bits-count.false, within, past, ap (λ (l : ℕ). Merkle (LocationOverflow l)) end))))

pub returns : goal.returns
returns g c =
    let end : c.saturating_add-end.result ≡ min (c.args.leaves + c.args.count) 18446744073709551615 =
    c.saturating_add-end.ensures ∙ ap (λ (l : ℕ). min (l + c.args.count) 18446744073709551615) c.new.ensures in
    let valid : c.saturating_add-end.result ≤ 2 ^ 62 = c.if-not-is_valid.ensures.0 refl in (
      c.if-bits-count.false,
      record {
        earlier = c.in_default.ensures;
        inside = omega (arith, end, c.as_u64.ensures, c.as_u64-2.ensures, c.if-as_u64.false);
      },
      omega (arith, end, valid),
    )
