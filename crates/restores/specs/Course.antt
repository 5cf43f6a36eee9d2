-- What each case of the code's Course is in document 01, and the course that node() leads to.
use Rattle.rules.specs.declared.Allocator.{Allocator}
use Rattle.rules.specs.Said.{Said, says, refuses}
use Rattle.rules.specs.Reads.{bytes_arg, Visited, buffer, number, children}
use Rattle.rules.specs.Restores as Rule
use Rattle.restores.specs.declared.course.Course.{Course}

abbrev pub course_paper : Course → Rule.Course
course_paper Course.Abort = Rule.abort
course_paper Course.Keep = Rule.keep
course_paper (Course.Share start end) = Rule.share start end
course_paper (Course.Copy start end) = Rule.copy start end

-- a node with new bytes, by what node() tells of it: its bytes, whatever its index; all else is Aborted, a refusal too
abbrev pub visited_course : Allocator → Said Visited → Said Rule.Course
visited_course a (says (buffer start end)) = Rule.new_course a (bytes_arg 0 start end)
visited_course a (says (number v)) = says Rule.abort
visited_course a (says (children first rest)) = says Rule.abort
visited_course a (refuses code node) = says Rule.abort
