use Rattle.op_log.specs.Records.{record_body}
use Rattle.op_log.proofs.Writing.{puts_then, puts_for}
use Rattle.op_log.proofs.encode.encode.Goals as goal

pub returns-clause-puts : goal.returns-clause-puts
unfolding record_body
returns-clause-puts c =
    let one = puts_then _ _ c.put_run-at.ensures.puts c.put_four-at.ensures.puts in
    let two = puts_then _ _ one c.put_eight-at.ensures.puts in
    let three = puts_then _ _ two c.put_two-at.ensures.puts in
    let four = puts_then _ _ three c.put_two-at-2.ensures.puts in
    let five = puts_then _ _ four c.put_two-at-3.ensures.puts in
    let six = puts_then _ _ five c.put_notes-at.ensures.puts in
    let seven = puts_then _ _ six c.put_entries-at.ensures.puts in
    let eight = puts_then _ _ seven c.put_numbers-at.ensures.puts in
    puts_for (puts_then _ _ eight c.put_run.ensures.puts) (cc (c.requires.len, c.len.ensures, c.len-2.ensures, c.len-3.ensures, c.as_slice.ensures, c.as_slice-2.ensures, c.as_slice-3.ensures))
