use Rattle.std.proofs.Common.{◌<◌, [], length}
use Rattle.pipe_edges.specs.Pacing.{ReadIsHeld}
use Rattle.pipe_edges.specs.declared.source.ReadEnd.TheVariants.{Got, Empty, Failed}
use Rattle.pipe_edges.proofs.PaceLaws.{got_round, empty_round, failed_round}
use Rattle.pipe_edges.proofs.NeedLaws.{needed_once}
use Rattle.pipe_edges.proofs.reading.read_round.Goals as goal

pub returns-in-Got-clause-paced : goal.returns-in-Got-clause-paced
returns-in-Got-clause-paced g c =
    let read : ReadIsHeld g.B.ByteSource c.args.source.now c.read_from.new.source c.args.held.now c.read_from.new.self (Got c.in-Got.field-0) = rw c.in-Got.is at c.in_ok-read_from.ensures.paced in
    let more : length c.args.held.now < length c.read_from.new.self = rw c.in-Got.is at c.in_ok-read_from.ensures.grows in
    got_round _ _ _ _ c.args.held.now c.read_from.new.self read.piece c.in-Got.field-0 c.requires.unbroken read.added more read.paced

pub returns-in-Empty-clause-paced : goal.returns-in-Empty-clause-paced
returns-in-Empty-clause-paced g c =
    let read : ReadIsHeld g.B.ByteSource c.args.source.now c.read_from.new.source c.args.held.now c.read_from.new.self Empty = rw c.in-Empty.is at c.in_ok-read_from.ensures.paced in
    empty_round _ _ _ _ c.args.held.now c.read_from.new.self read.piece c.requires.unbroken read.added read.paced

pub returns-in-Failed-clause-paced : goal.returns-in-Failed-clause-paced
returns-in-Failed-clause-paced g c =
    let read : ReadIsHeld g.B.ByteSource c.args.source.now c.read_from.new.source c.args.held.now c.read_from.new.self Failed = rw c.in-Failed.is at c.in_ok-read_from.ensures.paced in
    failed_round _ _ _ _ c.args.held.now c.read_from.new.self read.piece c.requires.unbroken read.added read.paced

pub returns-in-Got-clause-needed : goal.returns-in-Got-clause-needed
returns-in-Got-clause-needed g c =
    let read = c.read_from.ensures in
    needed_once c.args.held.now c.read_from.new.self [] read.handed.part c.requires read.handed.all_kept read.at_most
