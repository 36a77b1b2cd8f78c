-- What was agreed, as it is read.
use Rattle.storage_file.specs.declared.agreed.OwnedAgreement.{OwnedAgreement}
use Rattle.storage_file.specs.Kept.{Agreement}

abbrev pub agreement_in : OwnedAgreement → Agreement
agreement_in it = record {
  family = it.family.items;
  digest = it.digest.items;
  chunk_size = it.chunk_size;
  key_encoding = it.key_encoding.items;
  value_encoding = it.value_encoding.items;
}
