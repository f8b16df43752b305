use Rattle.std.proofs.Common.{refl}
use Rattle.std.specs.Fmt.{digits}
use Rattle.reg_command.proofs.CommandSteps.{line_at}
use Rattle.reg_command.proofs.images.line_of.Goals as goal

pub returns-in-Read : goal.returns-in-Read
unfolding digits
returns-in-Read c = line_at c.args.fault _ _ c.in-Read.is refl

pub returns-in-Short : goal.returns-in-Short
unfolding digits
returns-in-Short c = line_at c.args.fault _ _ c.in-Short.is refl

pub returns-in-Signature : goal.returns-in-Signature
unfolding digits
returns-in-Signature c = line_at c.args.fault _ _ c.in-Signature.is refl

pub returns-in-Version : goal.returns-in-Version
unfolding digits
returns-in-Version c = line_at c.args.fault _ _ c.in-Version.is refl

pub returns-in-Checksum : goal.returns-in-Checksum
unfolding digits
returns-in-Checksum c = line_at c.args.fault _ _ c.in-Checksum.is refl

pub returns-in-Dirty : goal.returns-in-Dirty
unfolding digits
returns-in-Dirty c = line_at c.args.fault _ _ c.in-Dirty.is refl

pub returns-in-Bins : goal.returns-in-Bins
unfolding digits
returns-in-Bins c = line_at c.args.fault _ _ c.in-Bins.is refl

pub returns-in-Cells : goal.returns-in-Cells
unfolding digits
returns-in-Cells c = line_at c.args.fault _ _ c.in-Cells.is refl

pub returns-in-Record : goal.returns-in-Record
unfolding digits
returns-in-Record c = line_at c.args.fault _ _ c.in-Record.is refl

pub returns-in-Loop : goal.returns-in-Loop
unfolding digits
returns-in-Loop c = line_at c.args.fault _ _ c.in-Loop.is refl

pub returns-in-Twice : goal.returns-in-Twice
unfolding digits
returns-in-Twice c = line_at c.args.fault _ _ c.in-Twice.is refl

pub returns-in-NotInProfile : goal.returns-in-NotInProfile
unfolding digits
returns-in-NotInProfile c = line_at c.args.fault _ _ c.in-NotInProfile.is refl

pub returns-in-Limit : goal.returns-in-Limit
unfolding digits
returns-in-Limit c = line_at c.args.fault _ _ c.in-Limit.is refl
