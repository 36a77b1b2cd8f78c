use Rattle.storage_codec.specs.Laws.Parts.{ends_then}
use Rattle.storage_sync.proofs.sync.opening.codec.OpeningRead.read_cfg.Goals as goal

pub returns-in-Err-read_cfg-2-clause-ends : goal.returns-in-Err-read_cfg-2-clause-ends
returns-in-Err-read_cfg-2-clause-ends g c = ends_then c.read_cfg.ensures.ends
    (ends_then c.read_cfg-2.ensures.ends (ends_then c.read.ensures.ends c.read_cfg-3.ensures.ends))

pub returns-in-Err-read_strings-clause-ends : goal.returns-in-Err-read_strings-clause-ends
returns-in-Err-read_strings-clause-ends g c = ends_then c.read_cfg.ensures.ends (ends_then c.read_cfg-2.ensures.ends
    (ends_then c.read.ensures.ends (ends_then c.read_cfg-3.ensures.ends c.read_strings.ensures.ends)))

pub returns-in-Err-read_pins-clause-ends : goal.returns-in-Err-read_pins-clause-ends
returns-in-Err-read_pins-clause-ends g c = ends_then c.read_cfg.ensures.ends (ends_then c.read_cfg-2.ensures.ends
    (ends_then c.read.ensures.ends (ends_then c.read_cfg-3.ensures.ends
    (ends_then c.read_strings.ensures.ends c.read_pins.ensures.ends))))

pub returns-in-Ok-read_pins-2-clause-ends : goal.returns-in-Ok-read_pins-2-clause-ends
returns-in-Ok-read_pins-2-clause-ends g c = ends_then c.read_cfg.ensures.ends (ends_then c.read_cfg-2.ensures.ends
    (ends_then c.read.ensures.ends (ends_then c.read_cfg-3.ensures.ends (ends_then c.read_strings.ensures.ends
    (ends_then c.read_pins.ensures.ends c.read_pins-2.ensures.ends)))))

pub returns-in-Err-read_pins-2-clause-ends : goal.returns-in-Err-read_pins-2-clause-ends
returns-in-Err-read_pins-2-clause-ends g c = ends_then c.read_cfg.ensures.ends (ends_then c.read_cfg-2.ensures.ends
    (ends_then c.read.ensures.ends (ends_then c.read_cfg-3.ensures.ends (ends_then c.read_strings.ensures.ends
    (ends_then c.read_pins.ensures.ends c.read_pins-2.ensures.ends)))))
