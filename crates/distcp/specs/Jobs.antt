-- What the words of the command line ask for.
use Rattle.std.specs.Prelude.{ℕ, ◌^◌, ◌-◌, List, [], ◌∷◌, codes, Option, Some, None, if◌then◌else◌}
use Rattle.dc_path.specs.Names.{same_name}
use Rattle.dc_path.specs.Numbers.{number_in}
use Rattle.distcp.specs.declared.words.Job.{Job}
use Rattle.distcp.specs.declared.words.Job.TheVariants.{Help, Version, Drill, BadDrill, Folders, TooFew}

-- a drill of two numbers
abbrev pub drill_by : Option ℕ → Option ℕ → Job
drill_by (Some seed) (Some count) = Drill seed count
drill_by seed count = BadDrill

-- the words after `drill`: a seed of 64 bits and a count of 32
abbrev pub drill_of : List (List ℕ) → Job
drill_of (seed ∷ count ∷ []) = drill_by (number_in 0 (2 ^ 64 - 1) seed) (number_in 0 (2 ^ 32 - 1) count)
drill_of words = BadDrill

-- a word that is no `drill`, and those after it: alone it may ask for help or the version, and with another both are folders
abbrev pub folders_of : List ℕ → List (List ℕ) → Job
folders_of word [] = if same_name word (codes "--help") then Help else if same_name word (codes "--version") then Version else TooFew
folders_of word (other ∷ words) = Folders

-- what the words ask for: a first word `drill` decides before all else
abbrev pub job_of : List (List ℕ) → Job
job_of [] = TooFew
job_of (word ∷ words) = if same_name word (codes "drill") then drill_of words else folders_of word words

-- how the program is used
abbrev pub usage : List ℕ
usage = codes "usage: distcp SOURCE_FOLDER TARGET_FOLDER [OPTION]... SOURCE... TARGET\n       distcp drill SEED COUNT\nThe first copies paths of one folder of this machine to a path of another. Paths are under their folder and begin with a slash,\nand options may stand anywhere among them. The second copies 2 to 200000 small files in memory.\nexample: distcp . /tmp -update -delete /docs /docs-copy\noptions:\n  -update            copy what the target lacks, or has with another length or content\n  -overwrite         copy every file again\n  -append            with -update: add to a file that begins as the source's what it lacks\n  -delete            with -update or -overwrite: remove what the source lacks, but no snapshots\n  -skipcrccheck      with -update: take files of one length for the same, whatever they hold\n  -p[LETTERS]        keep attributes: r replication, b block size, u user, g group, p mode,\n                     a ACL, x extended attributes, t time; -p alone is -prbugpt\n  -i                 go on without what clashes with the target or can't be read\n  -atomic            copy to the work path .distcp.work, and move it to the target at the end\n  -tmp PATH          with -atomic: the target's folder for the work path\n  -f FILE            take the sources from the lines of a file of the source\n  -filters FILE      leave out what a line of a file of the source matches as a pattern\n  -m N               copy with at most N workers, 1 to 65535 [20]\n  -strategy NAME     share files among workers by size, uniformsize, or in turn, dynamic\n                     [uniformsize]\n  -blocksperchunk N  cut files into pieces of N blocks, or not at all with 0 [0]\n  -copybuffersize N  read so many bytes at once, 1 to 16777216 [8192]\n  -diff FROM TO      with -update: replay what changed between two snapshots of the source\n  -rdiff NEW OLD     with -update: bring the target back to an older snapshot\n  -kills FILE        stop the attempts that a file of the source names, to try a run out\n-diff and -rdiff are not built yet.\n"

-- what is printed of a job that is no run, and the exit status
abbrev pub said : Job → Option (List ℕ × ℕ)
said Help = Some (usage, 0)
said Version = Some (codes "distcp 0.1.0\n", 0)
said (Drill seed count) = None
said BadDrill = Some (codes "distcp: bad drill\n", 255)
said Folders = None
said TooFew = Some (codes "distcp: two folders are needed\n", 255)
