use Rattle.ash_lines.specs.ReplyText.{reply_line}
use Rattle.ash_lines.proofs.reply.write_line_reply.Goals as goal

pub returns-in-Host : goal.returns-in-Host
unfolding reply_line
returns-in-Host g c = record { line = rw c.in-Host.is c.write_reply_line.ensures.line }

pub returns-in-Quit : goal.returns-in-Quit
unfolding reply_line
returns-in-Quit g c = record { line = rw c.in-Quit.is c.buffer_line.ensures.line }

pub returns-in-BadRequest : goal.returns-in-BadRequest
unfolding reply_line
returns-in-BadRequest g c = record { line = rw c.in-BadRequest.is c.buffer_line-in-BadRequest.ensures.line }

pub returns-in-LineTooLong : goal.returns-in-LineTooLong
unfolding reply_line
returns-in-LineTooLong g c = record { line = rw c.in-LineTooLong.is c.buffer_line-in-LineTooLong.ensures.line }
