-- The masks of document 01: which bits of pmpcfg lock an entry, and which bits of pmpcfg, pmpaddr and mcountinhibit may be one.
use Rattle.csr_addresses.specs.declared.Masks.{Masks}

abbrev pub masks_of : Masks
masks_of = record {
  pmp_cfg_lock = 0x8080808080808080;
  pmp_cfg_legal = 0x9F9F9F9F9F9F9F9F;
  pmp_addr_legal = 0x003FFFFFFFFFFFFF;
  mcountinhibit_legal = 0xFFFFFFFFFFFFFFFD;
}
